pub mod Spaces
pub mod Kept
pub mod Parts
pub mod Effects
pub mod Free
