-- What inner contracts cite; no reader of the promises needs it.
pub mod Grouped
pub mod Runs
pub mod Gate
