pub mod Moving
pub mod Determined
