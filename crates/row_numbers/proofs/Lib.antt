-- The numbers of a row: one outcome each.
pub mod Unique
