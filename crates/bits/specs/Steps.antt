-- What inner contracts cite; no reader of the promises needs it.
pub mod Counting
pub mod Places
pub mod Words
