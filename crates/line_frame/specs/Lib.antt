-- Document 01, "The ihave line": the frame of a line.
pub mod Frame
