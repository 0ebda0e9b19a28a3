-- What stands in code items, beside what docs/dex-format.md asks of them.
pub mod Asking
pub mod Shared
pub mod Whats
pub mod Finding
pub mod Places
pub mod Lying
pub mod Keeping
