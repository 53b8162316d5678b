-- What the readers of a datagram's numbers answer.
pub mod Found
