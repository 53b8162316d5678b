-- Demand 3, and document 01, "Bench cards".
pub mod Cards
pub mod History
pub mod Chain
