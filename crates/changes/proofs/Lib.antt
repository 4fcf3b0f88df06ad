pub mod Written
pub mod Kept
pub mod Cells
pub mod Determined
