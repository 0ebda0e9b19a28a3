-- What a file is that classes are written to.
pub mod Written
