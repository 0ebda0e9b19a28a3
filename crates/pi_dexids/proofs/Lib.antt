-- Lemmas on strings, types and entries.
pub mod Lists
pub mod Places
pub mod Heads
pub mod KnownTexts
mod Examples
pub mod Grammar
pub mod Known
pub mod Firsts
