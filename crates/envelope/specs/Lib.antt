-- Document 01, "Names and fields": the fields that a line and a datagram share.
pub mod Texts
pub mod Rules
pub mod Tidy
