-- Laws over plain numbers and lists that the proofs of the functions cite.
pub mod Compared
pub mod Determined
