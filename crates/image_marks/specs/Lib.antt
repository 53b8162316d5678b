-- Document 01, "The saved table": the marks of an image.
pub mod Marks
