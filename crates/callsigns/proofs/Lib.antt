-- Laws of callsigns and destinations.
pub mod Choices
pub mod Runs
pub mod Callsigns
pub mod SameCall
pub mod Destinations
pub mod Lengths
pub mod Examples
pub mod Unique
