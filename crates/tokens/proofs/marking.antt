pub mod Closing
pub mod Counting
pub mod Finding
pub mod Marking
pub mod Determined
