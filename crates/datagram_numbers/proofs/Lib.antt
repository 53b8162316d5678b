-- What the readers' tests come to, and what every public contract must show.
pub mod Chains
pub mod Ids
pub mod Unique
