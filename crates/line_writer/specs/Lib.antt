-- Document 01, "The ihave line": what the writer answers and leaves.
pub mod Answer
pub mod Steps
