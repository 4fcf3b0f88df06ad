-- What the functions write, what two writings come to, and how long a line can be.
pub mod Writing
pub mod Digits
pub mod Cut
pub mod Room
pub mod Determined
