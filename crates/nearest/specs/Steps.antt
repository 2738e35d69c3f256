-- What only inner contracts cite.
pub mod Trellis
pub mod Rows
