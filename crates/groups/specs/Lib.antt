-- Document 01, "Fragments": the groups of the house store.
pub mod Groups
