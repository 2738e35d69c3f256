-- What inner contracts cite; no reader of the promises needs it.
pub mod Gate
pub mod Spread
