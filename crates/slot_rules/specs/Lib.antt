-- Document 01, "Streams": the slots of a table together.
pub mod Slots
pub mod Steps
