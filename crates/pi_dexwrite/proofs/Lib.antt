-- Why a builder holds what was added, and why a file says it.
pub mod Adding
pub mod TablesMade
pub mod RowLists
