-- Document 01, "The ihave line": words and `key=value` tokens.
pub mod Cuts
pub mod Tokens
pub mod Steps
