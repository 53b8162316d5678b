-- Document 01, "Names and fields": the rules of numbers.
pub mod Rules
