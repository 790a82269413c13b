pub mod Tree
pub mod Calls
pub mod Refusals
pub mod Fs
pub mod World
pub mod Promise
pub mod Laws
