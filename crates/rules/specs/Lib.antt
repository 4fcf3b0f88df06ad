-- What to believe, in the order of document 01, and last what document 02 adds: of a whole tape (vii), and an index (viii).
pub mod Lists
pub mod Hall
pub mod Answers
pub mod Records
pub mod Sound
pub mod Bytes
pub mod Tape
pub mod Form
pub mod Steps
pub mod Verdicts
pub mod Slips
pub mod Agree
pub mod Listing
pub mod Walk
pub mod Balance
pub mod Index
