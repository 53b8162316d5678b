-- The check that ends an `ihave` line.
pub mod Crc
