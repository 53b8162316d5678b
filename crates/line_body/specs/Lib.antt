-- Document 01, "The ihave line": the body of a line that is written.
pub mod Held
pub mod Steps
