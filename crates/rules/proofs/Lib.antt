pub mod Firsts
pub mod Lists
pub mod Shelves
pub mod Columns
pub mod Staircase
pub mod Records
pub mod Places
pub mod Agreement
