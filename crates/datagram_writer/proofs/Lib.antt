-- The writer's ways out, both round trips, and what every public contract must show.
pub mod Whole
pub mod Trips
pub mod Unique
