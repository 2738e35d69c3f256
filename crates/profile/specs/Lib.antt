pub mod Record
pub mod Staircase
pub mod Promises
pub mod Steps
