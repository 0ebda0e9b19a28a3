-- Why the test tells whether names and classes fit.
pub mod Differ
pub mod Fitting
