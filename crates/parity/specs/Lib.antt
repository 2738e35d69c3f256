pub mod Matrix
pub mod Coded
pub mod Promises
pub mod Steps
