pub mod Cuts
pub mod Items
pub mod Pairs
pub mod Unique
