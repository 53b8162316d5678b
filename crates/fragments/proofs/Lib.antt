-- Laws of the store.
pub mod Joins
pub mod Unique
