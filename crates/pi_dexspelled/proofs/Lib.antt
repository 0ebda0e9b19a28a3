-- Why the test tells whether a file can say a class.
pub mod Laid
pub mod Spelled
pub mod Fronts
pub mod Bare
pub mod Places
pub mod Groups
pub mod Parts
