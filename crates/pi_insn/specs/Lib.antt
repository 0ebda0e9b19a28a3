-- The table of opcodes, reading and writing of instructions, and payloads.
pub mod Table
pub mod Numbers
pub mod Reading
pub mod Payloads
pub mod Lent
pub mod Chain
pub mod Writing
pub mod Packed
