-- Initialising classes ahead of time.
pub mod Watch
pub mod Fold
pub mod Laws
