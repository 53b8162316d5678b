-- Well-formed UTF-8.
pub mod Utf8
pub mod Ascii
pub mod Steps
