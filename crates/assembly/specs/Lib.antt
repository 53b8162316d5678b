-- Document 01, "Fragments": histories of calls.
pub mod History
