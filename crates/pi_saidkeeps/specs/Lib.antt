-- The classes of the files of a chain.
pub mod Chains
