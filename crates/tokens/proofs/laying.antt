pub mod Laying
pub mod Determined
