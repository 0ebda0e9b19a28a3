-- The definitions over the plain program that contracts cite.
pub mod Distinct
pub mod Flags
pub mod Index
pub mod Uses
pub mod Registers
pub mod Program
pub mod Values
pub mod Texts
pub mod Known
pub mod Search
pub mod Dispatch
pub mod Subtypes
pub mod Fields
pub mod Arithmetic
pub mod Sizes
pub mod Valid
pub mod Order
