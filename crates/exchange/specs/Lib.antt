-- A host and a session; worked exchanges: what a peer sends, and what it hears.
pub mod Host
pub mod Exchange
