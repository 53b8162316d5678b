-- Laws of the table, and its theorems.
pub mod Lookups
pub mod Places
pub mod Moves
pub mod Keeps
pub mod Refusals
pub mod Others
pub mod Alone
pub mod Unknown
pub mod Unique
