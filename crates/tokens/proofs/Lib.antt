-- Laws of cut texts and of tokens, and what every public contract must show.
pub mod Parts
pub mod Words
pub mod Lookups
pub mod Unique
