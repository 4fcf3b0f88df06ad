pub mod Among
pub mod Turns
pub mod Determined
