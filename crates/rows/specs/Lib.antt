pub mod Kinds
pub mod Places
pub mod Entries
pub mod Found
