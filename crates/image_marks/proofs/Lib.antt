-- The marks of an image: one outcome each.
pub mod Unique
