pub mod Seeking
pub mod Looking
pub mod Determined
