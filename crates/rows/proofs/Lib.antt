-- Laws of one row, and its theorems.
pub mod Words
pub mod Rules
pub mod Steps
pub mod Cases
pub mod Keeps
pub mod Refusals
pub mod Expected
pub mod Unique
