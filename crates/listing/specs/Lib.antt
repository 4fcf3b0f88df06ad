pub mod Written
pub mod Parties
pub mod Parts
