-- Document 01, "The ihave line": what reading a line finds, and how a message is written as one.
pub mod Reading
pub mod Writing
pub mod Steps
