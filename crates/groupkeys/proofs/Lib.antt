-- Laws of a group's key.
pub mod Names
pub mod SameKey
pub mod Unique
