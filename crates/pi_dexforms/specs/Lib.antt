-- What is held on the way to the units of an instruction.
pub mod Held
