-- Laws of the calls on the groups.
pub mod Tests
pub mod Moves
pub mod Unique
