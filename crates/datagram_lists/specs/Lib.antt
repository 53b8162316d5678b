-- What the readers of a datagram's lists answer.
pub mod Found
