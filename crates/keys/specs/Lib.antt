-- Document 01, "Streams": a row's key is originator and stream id.
pub mod Key
