-- Worked examples of attempts and selections.
mod Helpers
mod Selections
mod Images
mod Limits
mod Ahead
pub mod Once
mod RefusalExamples
pub mod Refusals
mod Stuck
pub mod Turns
