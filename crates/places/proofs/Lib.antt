-- The sixteen places and the list in them.
pub mod Packing
pub mod Words
pub mod Unique
