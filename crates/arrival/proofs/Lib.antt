-- Document 02, W14: the theorems.
pub mod Rising
pub mod OneRow
pub mod Workshops
pub mod Sentence
pub mod Nought
pub mod CanBeMet
pub mod Worked
