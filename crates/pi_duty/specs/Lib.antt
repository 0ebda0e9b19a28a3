-- What commands owe.
pub mod Words
pub mod Command
pub mod Lines
pub mod Small
pub mod Shape
pub mod Duty
