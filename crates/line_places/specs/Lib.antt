-- Document 01, "The ihave line": the values and the headers of a line, each found in one pass.
pub mod Headers
pub mod Places
pub mod Steps
