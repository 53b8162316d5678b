-- What a copy into an array leaves, and what every public contract must show.
pub mod Held
pub mod Unique
