-- The definitions that contracts cite.
pub mod Patterns
pub mod Derivatives
pub mod Tokens
pub mod Cutting
pub mod Words
pub mod Spelling
pub mod Symbols
pub mod Grammar
pub mod Checks
pub mod Rest
pub mod Steps
pub mod Places
pub mod Walking
