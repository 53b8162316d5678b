-- A line as it is put together.
pub mod Drafts
