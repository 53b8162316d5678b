-- What is said is what the definitions say.
pub mod Unique
