-- The round trip of the ihave line.
pub mod Examples
pub mod Texts
pub mod Cuts
pub mod Lookups
pub mod Values
pub mod Tidied
pub mod Message
pub mod RoundTrip
pub mod OneByte
pub mod Calls
pub mod Accepted
pub mod Ordered
pub mod Again
