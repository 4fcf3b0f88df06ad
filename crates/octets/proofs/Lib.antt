pub mod Stores
pub mod Determined
