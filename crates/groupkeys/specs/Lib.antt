-- Document 01, "Fragments": a group's key.
pub mod Key
