-- Document 01, "The receiving session": what is said to the peer.
pub mod Replies
pub mod Texts
