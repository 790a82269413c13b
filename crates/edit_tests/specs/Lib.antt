pub mod Moments
pub mod Lends
