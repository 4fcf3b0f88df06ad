pub mod Sold
pub mod Seeking
pub mod Determined
