pub mod Eight
pub mod Reader
pub mod Writer
pub mod Determined
