-- Document 01, "The saved table".
pub mod Answer
pub mod Image
