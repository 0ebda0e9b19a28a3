-- How the parts of a file are laid one behind the other.
pub mod Parts
pub mod Lebs
