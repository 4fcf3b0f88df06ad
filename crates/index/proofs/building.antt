pub mod Building
pub mod Determined
