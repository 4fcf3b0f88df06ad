pub mod Parted
pub mod Alone
pub mod Begun
pub mod Determined
