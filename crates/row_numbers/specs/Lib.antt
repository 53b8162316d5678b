-- Document 01, "Streams": the numbers of a row.
pub mod Numbers
