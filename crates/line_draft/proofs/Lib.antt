-- Laws of drafts, and what every public contract must show.
pub mod Drafts
pub mod Unique
