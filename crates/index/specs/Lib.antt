pub mod Places
pub mod Walkable
pub mod Putting
