-- SHA-1 and the id at given messages.
pub mod Vectors
