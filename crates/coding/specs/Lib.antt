pub mod Blocks
pub mod Allocation
pub mod Joining
pub mod Receiving
pub mod Promises
pub mod RoundTrip
pub mod Steps
