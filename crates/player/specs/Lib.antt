pub mod Played
pub mod Split
pub mod Messages
