pub mod Faults
pub mod Rules
pub mod Places
pub mod Promises
pub mod Steps
