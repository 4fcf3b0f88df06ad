pub mod Marked
pub mod Going
pub mod Determined
