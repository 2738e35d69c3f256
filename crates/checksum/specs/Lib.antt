pub mod Crc
pub mod Masked
pub mod Promises
pub mod Steps
