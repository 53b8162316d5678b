-- Document 01, "Names and fields": the values of a line's keys.
pub mod Values
