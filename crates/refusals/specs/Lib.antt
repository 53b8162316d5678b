-- Document 01's table of refusals.
pub mod Numbers
pub mod Refusals
