-- Document 01, "The datagram": what the reader answers.
pub mod Answer
pub mod Groups
