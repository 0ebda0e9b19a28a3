-- Why the answers are those of the definitions.
pub mod Exact
pub mod Keying
pub mod Keeping
pub mod Ranking
pub mod Walking
