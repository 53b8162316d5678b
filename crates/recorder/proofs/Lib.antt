-- Parts written one behind the other.
pub mod Behind
pub mod Unique
