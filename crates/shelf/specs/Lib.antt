pub mod Shelf
pub mod Lookup
pub mod Promises
pub mod Isolation
pub mod Steps
