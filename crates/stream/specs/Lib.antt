-- What the contracts of the program's functions cite.
pub mod Room
