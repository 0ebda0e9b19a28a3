-- What is known of a file's strings, types and entries.
pub mod Tables
pub mod Facts
pub mod Texts
pub mod Tails
