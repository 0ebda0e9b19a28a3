-- What classes name, as it is gathered, and the numbers that it has in a file.
pub mod Gathered
pub mod Ranked
pub mod There
