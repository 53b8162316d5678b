-- What every public contract must show, and what a message that nothing refuses keeps.
pub mod Clear
pub mod Unique
