pub mod Counted
pub mod Shape
pub mod Stairs
pub mod Walk
pub mod Extension
pub mod Accepted
pub mod Answers
pub mod Agreement
