-- What inner contracts cite; no reader of the promises needs it.
pub mod Numbers
pub mod Shares
pub mod Sending
pub mod Receiving
