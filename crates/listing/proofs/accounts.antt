-- A party's line, written or not; texts joined over a range; the lines of all the parties.
pub mod Line
pub mod Joined
pub mod All
pub mod Determined
