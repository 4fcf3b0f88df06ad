-- Laws over plain numbers and lists that the proofs of the functions cite.
pub mod Chained
pub mod Stood
pub mod Sale
pub mod Cleared
pub mod Determined
