pub mod Fine
pub mod Placed
pub mod Alone
pub mod Clauses
