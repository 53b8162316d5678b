-- What the session's promises come to: the rules are kept, cuts and buffers make no difference, a message has the right id; the whole case.
pub mod Keeps
pub mod Cuts
pub mod Messages
pub mod WholeCase
pub mod Witness
