-- Document 01, "The datagram": its layout, what it carries, and the rules for it.
pub mod Texts
pub mod Rules
pub mod Layout
pub mod Tidy
