-- The test whether a file can say a class, as it is computed.
pub mod Tests
