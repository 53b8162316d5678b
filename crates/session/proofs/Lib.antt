-- A piece is fed in runs.
pub mod Runs
pub mod Replies
pub mod Steps
pub mod Tests
pub mod Unique
