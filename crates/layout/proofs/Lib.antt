-- Laws of the layout, and what every public contract must show.
pub mod Past
pub mod Laws
pub mod Whole
pub mod Valid
pub mod Unique
