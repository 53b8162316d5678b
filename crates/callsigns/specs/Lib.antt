-- Document 01, "Names and fields": callsigns and destinations.
pub mod Runs
pub mod Callsign
pub mod Suffix
pub mod Destination
