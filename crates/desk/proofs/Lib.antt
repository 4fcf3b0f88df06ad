pub mod Ahead
pub mod Refused
pub mod Kind
pub mod Determined
