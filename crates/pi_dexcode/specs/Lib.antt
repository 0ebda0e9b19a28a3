-- Names one after another, and payloads that stand whole.
pub mod Groups
pub mod Noting
pub mod Whole
