pub mod Plan
pub mod Transport
pub mod Cutting
pub mod Promises
pub mod Steps
