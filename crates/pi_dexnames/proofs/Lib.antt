-- Why the answers are those of the definitions.
pub mod Grown
pub mod Together
mod Unnamed
mod Parts
