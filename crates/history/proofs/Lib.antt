-- Demand 3; the cards hold.
pub mod Cards
pub mod Counting
pub mod Sound
pub mod Steps
pub mod Serves
pub mod Demand3
