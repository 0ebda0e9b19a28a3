-- Lemmas on numbers and texts in bytes.
pub mod Signed
pub mod Lebs
pub mod Texts
pub mod Laws
pub mod LebLaws
pub mod Examples
pub mod Halves
