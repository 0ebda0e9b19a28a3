-- The definitions that contracts cite.
pub mod Lines
pub mod Telling
pub mod Taking
pub mod Units
pub mod Selection
pub mod Numbers
pub mod Job
pub mod Took
