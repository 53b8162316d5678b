-- Laws of folded texts.
pub mod Folding
pub mod Places
pub mod Examples
pub mod Unique
