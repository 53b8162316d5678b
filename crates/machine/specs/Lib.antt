-- A machine that is fed bytes, and its hosts.
pub mod Machine
pub mod Hosts
