pub mod Counters
pub mod MemSink
pub mod MemStore
pub mod Outside
pub mod Status
pub mod Views
pub mod Writes
