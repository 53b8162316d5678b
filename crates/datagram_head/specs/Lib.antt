-- Document 01, "The datagram": what stands before the payload, and what the private functions promise one another.
pub mod Head
pub mod Steps
