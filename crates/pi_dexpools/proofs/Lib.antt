-- Why what is gathered is what is named.
pub mod Grown
mod Outcomes
pub mod Places
pub mod There
