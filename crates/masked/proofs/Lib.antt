pub mod Answers
pub mod Agreement
