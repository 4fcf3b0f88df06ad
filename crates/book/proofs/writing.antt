pub mod Writing
pub mod Emptying
pub mod Determined
