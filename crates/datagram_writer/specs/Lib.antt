-- Document 01, "The datagram": what the writer answers and leaves.
pub mod Answer
