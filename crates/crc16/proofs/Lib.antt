-- Laws of the register, and what the public functions leave.
pub mod Every
pub mod Xor
pub mod Register
pub mod Laws
pub mod Unique
