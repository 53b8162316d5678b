-- Document 02, W14: the statement, and arrivals worked out.
pub mod Arrival
pub mod Workshops
pub mod Worked
