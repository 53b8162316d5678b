-- Facts about the rules of a session.
pub mod Tests
pub mod Unique
