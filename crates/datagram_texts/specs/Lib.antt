-- What the readers of a datagram's texts answer.
pub mod Found
