-- What the contracts cite beside the rules: a record judged with what its kind uses given, and the paper's answer as the code's types have it.
pub mod Fields
pub mod Reading
