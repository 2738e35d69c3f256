pub mod Room
pub mod Numbers
pub mod NoLess
pub mod Agreement
