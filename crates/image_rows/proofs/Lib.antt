-- What reading the rows of an image comes to.
pub mod Reading
pub mod Unique
