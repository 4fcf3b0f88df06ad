pub mod Laid
pub mod Map
pub mod Moved
pub mod Marks
