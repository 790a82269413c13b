pub mod Lent
pub mod Head
pub mod Encodes
