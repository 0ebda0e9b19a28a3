pub mod Examples
pub mod Puts
pub mod Stands
pub mod ReadBack
