pub mod Heads
pub mod Causes
pub mod Sections
pub mod Layout
