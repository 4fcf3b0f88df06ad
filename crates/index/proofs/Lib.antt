pub mod Storing
pub mod Every
