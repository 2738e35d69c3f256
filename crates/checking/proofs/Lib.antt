pub mod Ranged
pub mod Elements
pub mod Answers
pub mod Agreement
