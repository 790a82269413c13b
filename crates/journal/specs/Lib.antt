pub mod Items
pub mod Changing
pub mod Laws
