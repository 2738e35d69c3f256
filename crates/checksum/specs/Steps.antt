-- What inner contracts cite; no reader of the promises needs it.
pub mod Register
pub mod Table
pub mod Testing
