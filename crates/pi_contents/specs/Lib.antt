-- What classes hold by texts, and what the format asks of it.
pub mod Contents
pub mod Named
pub mod Naming
pub mod Asked
