-- Laws of the line that is written, and what the public contract must show.
pub mod Whole
pub mod Unique
