-- Lemmas on texts and their lines.
pub mod Cuts
pub mod Digits
pub mod Utf8
pub mod Tellings
pub mod Takings
pub mod Fields
pub mod Args
pub mod Selections
mod Examples
