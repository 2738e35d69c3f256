pub mod Sums
pub mod Promises
pub mod Steps
