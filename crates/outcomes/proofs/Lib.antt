-- What the promises of the public functions come to: demand 2 there and back, demand 3, the yearly balance, the
-- handshake, whole slips, the walk.
pub mod Back
pub mod Records
pub mod Demand3
pub mod InStep
pub mod Year
pub mod Walked
pub mod Determined
pub mod Handshake
pub mod Worked
pub mod Slips
pub mod Balance
