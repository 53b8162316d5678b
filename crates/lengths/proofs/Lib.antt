-- Bytes gathered and tested once, and what every public contract must show.
pub mod Zeros
pub mod Unique
