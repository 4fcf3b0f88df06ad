-- What the promises come to: what demands 2 and 3 are stated over, of the running code.
pub mod Back
pub mod Calls
