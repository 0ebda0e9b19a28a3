-- What the stores that rows act on keep.
pub mod Counted
