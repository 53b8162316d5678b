-- Texts held in arrays.
pub mod Texts
