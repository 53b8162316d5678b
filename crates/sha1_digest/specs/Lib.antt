-- SHA-1, a state that is fed the message in pieces, and the message id.
pub mod Sha1
pub mod Machine
pub mod Id
