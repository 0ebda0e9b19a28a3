pub mod NoWrites
mod Once
mod Commands
mod Five
mod Shapes
