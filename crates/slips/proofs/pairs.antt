pub mod Paired
pub mod Slipping
pub mod Lined
pub mod Lining
pub mod Determined
