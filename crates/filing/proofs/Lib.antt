pub mod Filing
pub mod Read
pub mod Determined
