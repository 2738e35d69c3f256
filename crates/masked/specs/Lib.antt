pub mod Promises
