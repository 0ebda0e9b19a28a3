-- Why the answers are those of the definitions.
pub mod Near
mod Bare
pub mod LinesHeld
mod UnitsAre
mod TypesAre
pub mod Whole
