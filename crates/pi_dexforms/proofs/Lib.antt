-- Lemmas on the forms of an instruction.
mod Rows
mod FormSteps
mod Standing
