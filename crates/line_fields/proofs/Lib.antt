-- The groups of a line's keys together, and what every public contract must show.
pub mod Groups
pub mod Unique
