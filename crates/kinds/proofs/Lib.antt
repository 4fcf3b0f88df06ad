pub mod Table
pub mod Passed
pub mod Ready
