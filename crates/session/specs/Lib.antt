-- Document 01, "The receiving session": the session as a machine that is fed bytes, and the calls.
pub mod Feed
pub mod Answer
pub mod Calls
pub mod Runs
