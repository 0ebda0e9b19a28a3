-- Lemmas on the code that code items say.
mod Listing
mod Items
mod Payloads
mod Catches
pub mod Types
pub mod Walks
mod Noting
mod Mapped
