-- Laws of a table's slots.
pub mod Search
pub mod Marks
pub mod Pass
pub mod Unique
