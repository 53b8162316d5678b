-- What is said of bytes, once for all crates.
pub mod Words
pub mod Bytes
pub mod Numbers
pub mod Field
pub mod Reading
pub mod Unique
