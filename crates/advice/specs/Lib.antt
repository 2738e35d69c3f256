pub mod Least
pub mod Promises
pub mod Steps
