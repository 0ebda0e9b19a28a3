-- Lemmas on patterns and tokens.
pub mod Derivatives
pub mod Cutting
pub mod Spelling
pub mod Rows
pub mod Transitions
pub mod Meanings
pub mod Faults
pub mod Walking
pub mod Bounds
pub mod Published
pub mod Examples
