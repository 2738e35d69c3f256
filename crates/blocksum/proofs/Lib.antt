pub mod Generator
pub mod Answers
pub mod Agreement
