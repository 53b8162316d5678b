-- Laws of the rounds and of the schedule, and what the public functions leave.
pub mod Schedule
pub mod Unique
