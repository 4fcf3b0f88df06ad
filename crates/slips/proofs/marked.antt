pub mod Turns
pub mod Once
pub mod Determined
