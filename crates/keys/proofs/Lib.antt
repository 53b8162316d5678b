-- Laws of keys.
pub mod Names
pub mod SameKey
pub mod Marks
pub mod Unique
