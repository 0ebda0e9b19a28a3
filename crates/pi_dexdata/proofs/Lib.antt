-- Why the parts are those of the tables.
mod Payloads
mod Places
mod SameNumbers
mod ListNumbers
mod RangesMore
pub mod Entries
