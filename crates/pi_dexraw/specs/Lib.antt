-- What the tests of a file's tables answer, and what they leave known.
pub mod Asked
pub mod Whole
pub mod Interfaces
