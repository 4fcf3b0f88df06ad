pub mod Blocks
pub mod Walks
pub mod Least
pub mod Determined
