-- Why the answers are those of the definitions.
pub mod Assembled
pub mod Fits
pub mod Holds
pub mod Lines
pub mod Mapped
pub mod Numbering
pub mod Ranks
