-- The frame test by test, and what the public functions leave.
pub mod Frames
pub mod Unique
