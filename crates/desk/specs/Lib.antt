-- What the contracts cite beside the rules: a book that is known to be sound, and a reply of one number.
pub mod Known
pub mod Replies
