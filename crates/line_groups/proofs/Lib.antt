-- What the values that may be missing say, and what every public contract must show.
pub mod Given
pub mod Unique
