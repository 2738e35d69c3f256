pub mod Held
pub mod Stretches
pub mod Agreement
