mod Examples
pub mod Orders
pub mod Sortings
pub mod Arranged
pub mod Joined
pub mod Held
pub mod PoolsHold
pub mod Compared
pub mod Parts
pub mod Opcodes
