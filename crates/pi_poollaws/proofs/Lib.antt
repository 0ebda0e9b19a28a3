-- Why what is gathered is what is named.
pub mod Lists
pub mod Distinct
pub mod Grown
pub mod Exact
pub mod Held
pub mod PutIn
pub mod ReadAgain
pub mod Named
pub mod Apart
pub mod Members
pub mod Wholes
pub mod Numbers
