-- The numbers that a class is made a row with, and the parts of that row.
pub mod Taken
pub mod Parts
pub mod Lists
pub mod Rows
pub mod Heads
