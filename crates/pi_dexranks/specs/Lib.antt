-- What the steps of a ranking give.
pub mod Keys
pub mod Kept
