-- What the rules on a file say of the program that it says.
pub mod Lists
pub mod Names
pub mod Types
pub mod Counts
pub mod Members
pub mod Tables
pub mod Below
pub mod Fold
pub mod Facts
mod Premises
