-- Document 01, "The receiving session": what a whole line and a whole payload lead to.
pub mod Answer
pub mod Sessions
pub mod Talk
