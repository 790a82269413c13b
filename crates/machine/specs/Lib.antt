pub mod State
pub mod Program
pub mod Fits
pub mod Tables
pub mod Journal
pub mod Layout
pub mod Bounds
pub mod Kept
