-- What calls that name things make of the pools.
pub mod Named
