pub mod Spelled
pub mod Pairs
pub mod Stretches
pub mod Parting
pub mod Writing
pub mod Sizes
pub mod Laying
pub mod Agreement
