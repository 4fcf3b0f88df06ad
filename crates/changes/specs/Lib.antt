-- What the contracts cite beside the rules: what a step has found out before it moves tokens, and a sale by its two records.
pub mod Found
pub mod Sales
