-- Laws of feeding, the digest of any pieces, and what the public functions leave.
pub mod Feed
pub mod Ends
pub mod AnyPieces
pub mod Ids
pub mod Unique
