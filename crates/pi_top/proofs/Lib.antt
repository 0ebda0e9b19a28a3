pub mod Complete
mod Examples
pub mod Exact
pub mod Laid
pub mod Lists
pub mod Lookups
pub mod MachineRows
pub mod MachineRuns
pub mod MachineStart
pub mod MachineSteps
pub mod Obeying
pub mod Owing
pub mod PlainLaws
pub mod Puts
pub mod Roles
pub mod SmallRun
pub mod Wording
pub mod Words
