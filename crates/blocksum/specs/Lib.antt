pub mod Blocksum
pub mod Promises
