-- Document 01, "Streams": one row.
pub mod Answer
pub mod Stream
pub mod Row
pub mod Steps
