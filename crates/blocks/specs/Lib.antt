pub mod Words
pub mod Blocks
pub mod Bits
pub mod Laws
