-- Lists behind their counts, and what every public contract must show.
pub mod Behind
pub mod Loop
pub mod Unique
