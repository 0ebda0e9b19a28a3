-- What is gathered as rows of numbers, and the entries that such rows are.
pub mod Rows
