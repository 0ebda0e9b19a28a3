-- What tables say by texts, and when a file that says them keeps the rules.
pub mod Entries
pub mod Content
pub mod Closed
pub mod Kept
