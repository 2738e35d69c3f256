pub mod WellFormed
pub mod Heads
pub mod Finding
pub mod Hosted
pub mod Agreement
pub mod Isolation
pub mod Examples
