-- What is judged of the methods of a file.
pub mod Judged
pub mod Shared
pub mod Weight
pub mod Ready
