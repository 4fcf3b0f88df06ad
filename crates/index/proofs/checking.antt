pub mod Checking
pub mod Determined
