-- Bytes put one behind the other, the head that they make, and what every public contract must show.
pub mod Puts
pub mod Left
pub mod Whole
pub mod Unique
