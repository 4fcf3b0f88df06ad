pub mod Whole
pub mod Determined
