pub mod Matching
pub mod Promises
pub mod Steps
