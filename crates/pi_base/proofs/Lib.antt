mod Examples
pub mod Taken
pub mod Writing
