-- Laws of drafts and of the body that is written, and what the public contract must show.
pub mod Drafts
pub mod Whole
pub mod Unique
