-- Laws of the groups.
pub mod Search
pub mod Unique
