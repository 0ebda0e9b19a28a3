-- Codes by the numbers of what they name, on the way to the tables of a file.
pub mod Front
pub mod Laying
pub mod Caught
