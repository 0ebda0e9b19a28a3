-- Classes by their contents as the tables of a file.
pub mod Sorted
pub mod Numbers
pub mod Forms
pub mod Layout
pub mod Ranges
pub mod Values
pub mod Whole
pub mod Spelled
pub mod Sized
