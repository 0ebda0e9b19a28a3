-- The definitions of memory that contracts cite.
pub mod Space
pub mod Memory
pub mod Kept
pub mod Laws
