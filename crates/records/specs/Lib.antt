-- Document 01, "The saved table": one row's record.
pub mod Record
