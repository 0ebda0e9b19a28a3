mod Types
mod Chains
mod Merged
mod Places
mod Loops
mod Fits
pub mod Members
