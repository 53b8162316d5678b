-- Laws of text, and what every public function leaves open: nothing.
pub mod Numerals
pub mod Decimals
pub mod Sign
pub mod Hexes
pub mod Unique
pub mod Examples
