-- Why the rows are those of the tables.
pub mod FieldSteps
pub mod Sorts
pub mod SetValues
pub mod CodeSteps
pub mod RowSteps
pub mod ListSteps
pub mod EachArranged
pub mod Ranks
pub mod FieldRows
pub mod ClassNumbers
pub mod Whole
