-- Lemmas on the tests of tables, and on what they leave known.
pub mod Items
pub mod Halves
pub mod Params
pub mod Marks
pub mod Faces
pub mod Chain
pub mod Zeros
pub mod Judged
pub mod Kept
pub mod Texts
