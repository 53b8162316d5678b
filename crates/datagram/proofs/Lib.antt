-- What the reader's tests come to, and what every public contract must show.
pub mod Groups
pub mod Whole
pub mod Unique
