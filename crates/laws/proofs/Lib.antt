-- Where to look for a law.

-- lists of numbers: how often, a test of each, ranges, sums
pub mod Occurrences
pub mod Groups
pub mod Sums
pub mod Tokens
pub mod Zeros
-- loops that end early, along a list, a range of records, the pairs of a line
pub mod Loops
pub mod Pairs
-- blocks of n words in one list; records that are filled and made
pub mod Blocks
pub mod Made
-- what a sound book says: as a whole, of each record, by its place
pub mod Reflect
pub mod ReflectSlips
pub mod Asked
pub mod Books
-- places and their numbers; a list of changes and the book after it
pub mod Places
pub mod Changes
-- parts of a list as code lends them, and the list when a mutable part is back
pub mod Parts
-- unbroken runs of the token list; the places of tokens in it; what slips open to; the opened book by its records; the empty book
pub mod Runs
pub mod Spots
pub mod SlipLines
pub mod EachSlip
pub mod Opened
pub mod Empty
