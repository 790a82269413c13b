pub mod Bitmap
pub mod Laws
