-- Laws of the line, and what every public contract must show.
pub mod Distinct
pub mod Refusals
pub mod Unique
