-- The numbers that the parts of classes are made with, and the way from entries of handler tables to ranges.
pub mod Numbers
pub mod Grouped
