-- Lemmas on code items.
pub mod Items
pub mod Fronts
pub mod Finds
pub mod Walked
pub mod Readers
pub mod Listing
pub mod Askers
pub mod Filled
pub mod Served
mod Examples
pub mod Standing
pub mod Taken
