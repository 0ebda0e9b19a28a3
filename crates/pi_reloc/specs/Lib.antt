pub mod Bitmap
pub mod Patch
