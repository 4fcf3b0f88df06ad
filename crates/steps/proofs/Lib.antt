pub mod Found
pub mod Determined
