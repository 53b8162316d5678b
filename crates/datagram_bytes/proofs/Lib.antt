-- What reading and writing come to together.
pub mod Again
pub mod Good
pub mod Tidied
pub mod Back
pub mod Sizes
pub mod Longest
pub mod Reached
pub mod Smallest
