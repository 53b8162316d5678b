-- What stands for a key: one outcome.
pub mod Unique
