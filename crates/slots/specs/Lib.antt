-- Document 01, "Streams": a slot of the table.
pub mod Slot
