-- Document 01, "Names and fields": reserved keys, stream ids, header texts.
pub mod Reserved
pub mod Texts
