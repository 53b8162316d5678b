-- Document 01, "Streams": held messages.
pub mod Messages
pub mod Places
