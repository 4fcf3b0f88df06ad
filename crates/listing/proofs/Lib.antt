-- Lines under way; parts one after the other; a part of the tape, walked.
pub mod Lines
pub mod Joined
pub mod Parts
pub mod Determined
