-- What the contracts cite beside the rules: the records that a sale and a clear name; those of an authentication.
pub mod Spots
pub mod Pairs
