-- Laws of stream ids, header texts and reserved keys.
pub mod Lengths
pub mod Reserved
pub mod Unique
