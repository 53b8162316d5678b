-- Document 01, "Fragments": the bytes in the store.
pub mod Store
