-- How numbers and texts stand in bytes.
pub mod Place
pub mod Reading
pub mod Leb
pub mod Mutf8
pub mod Numbers
pub mod Sums
