-- Text: decimals, hex.
pub mod Digits
pub mod Decimal
pub mod Hex
pub mod Steps
