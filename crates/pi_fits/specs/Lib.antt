-- The test whether names and classes fit, as it is computed.
pub mod Tests
