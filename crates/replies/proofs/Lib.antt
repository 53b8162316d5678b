-- Facts about the replies.
pub mod Tokens
pub mod Joins
pub mod Unique
