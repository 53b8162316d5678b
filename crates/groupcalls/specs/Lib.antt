-- Document 01, "Fragments": what the calls answer, and what they come to on the groups.
pub mod Answer
pub mod Calls
