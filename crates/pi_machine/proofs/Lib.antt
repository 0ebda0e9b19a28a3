-- Laws with their proofs, and worked examples.
mod ActExamples
pub mod Changes
mod Costs
pub mod Each
pub mod Examples
pub mod Ended
pub mod FieldNumbers
mod Five
mod Handlers
mod Initialising
pub mod Images
mod InsnArrays
mod InsnBranches
mod InsnCalls
mod InsnFilled
mod InsnNumbers
mod InsnObjects
mod InsnTypes
mod Insides
mod Layouts
mod Mains
pub mod ManySteps
mod NativeCalls
mod NativeCopies
mod Premises
pub mod Readings
mod Rests
pub mod RowDeeds
mod RowExamples
mod RunEnds
pub mod RunLaws
pub mod Sample
pub mod Statuses
pub mod Moves
pub mod StepForms
mod SoundConstants
mod SoundExamples
pub mod SoundStarts
mod SoundThings
pub mod SoundValues
pub mod Sounds
mod Stuck
pub mod Truths
pub mod WordResults
