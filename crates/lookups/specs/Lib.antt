-- Document 01, "Streams": what stands for a key.
pub mod Lookup
