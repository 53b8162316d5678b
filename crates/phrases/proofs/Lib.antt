-- Facts about the lines.
pub mod Verbs
pub mod Unique
