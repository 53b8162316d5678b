-- What every public contract must show.
pub mod Unique
