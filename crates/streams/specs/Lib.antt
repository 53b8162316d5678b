-- Document 01, "Streams": the table of 32 rows.
pub mod Answer
pub mod Table
pub mod Calls
pub mod Meaning
pub mod Steps
