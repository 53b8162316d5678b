-- Theorems of the house store: Keeps, Refusals, Others, Chain and Gives; the other files are the laws behind them.
pub mod Rules
pub mod Keeps
pub mod Refusals
pub mod Places
pub mod Others
pub mod Parts
pub mod Sound
pub mod Chain
pub mod Gives
