-- Document 01, "The ihave line": what a line's tokens say.
pub mod Fields
pub mod Steps
