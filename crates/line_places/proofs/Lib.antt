-- Laws of the pass over a line's words, and what every public contract must show.
pub mod Gathered
pub mod Walk
pub mod Found
pub mod Turns
pub mod Unique
