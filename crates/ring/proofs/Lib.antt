-- What follows of an index: last the theorems, and worked examples.
pub mod Rounds
pub mod UpTo
pub mod Ways
pub mod Fits
pub mod Built
pub mod Theorems
pub mod Vectors
