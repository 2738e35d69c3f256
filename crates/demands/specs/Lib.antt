pub mod Numbers
pub mod Outputs
pub mod Steps
pub mod Worked
pub mod Fifteen
pub mod EditionOne
pub mod Taps
