-- Laws of a row's record.
pub mod Laws
pub mod Turns
pub mod Found
pub mod Unique
