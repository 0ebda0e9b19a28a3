-- Lemmas, and examples of the definitions.
pub mod Members
pub mod Kept
pub mod Orders
pub mod Firsts
pub mod Starts
pub mod Registers
mod Examples
mod ArithmeticExamples
mod Samples
mod SubtypeExamples
mod SearchExamples
mod DispatchExamples
mod FieldExamples
