pub mod Chains
pub mod Kinds
