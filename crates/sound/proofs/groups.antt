pub mod Grouped
pub mod Determined
