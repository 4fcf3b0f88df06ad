pub mod Kept
pub mod Together
pub mod Accounts
