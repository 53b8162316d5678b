-- Document 01, "The datagram": the bytes of a message.
pub mod Bytes
pub mod Examples
