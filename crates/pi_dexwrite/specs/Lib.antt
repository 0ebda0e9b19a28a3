-- What a builder holds, and what file it gives.
pub mod Built
pub mod Held
pub mod Ready
