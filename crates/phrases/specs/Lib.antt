-- Document 01, "The receiving session": what a peer's line is.
pub mod Lines
