pub mod Fields
pub mod Lines
pub mod Meaning
pub mod Law
pub mod Messages
