pub mod Published
pub mod Steps
pub mod Bodies
pub mod Again
pub mod Wide
pub mod Rounds
pub mod Fits
