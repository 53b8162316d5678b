-- SHA-1: one block, and block after block.
pub mod Block
