-- Cuts make no difference.
pub mod Cuts
