pub mod Nearest
pub mod Promises
pub mod Steps
