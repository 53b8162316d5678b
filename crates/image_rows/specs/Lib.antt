-- Document 01, "The saved table": the rows of an image.
pub mod Rows
pub mod Steps
