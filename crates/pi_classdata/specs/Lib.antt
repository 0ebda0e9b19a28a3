-- What calls read, in words that several of them share.
pub mod Held
pub mod There
