-- What contracts see of a frame.
use Rattle.std.specs.Prelude.{ℕ, List}

-- the place of the next instruction in a code's list, and the words of the registers
pub record Registers : Type 0 where
  pub line : ℕ
  pub words : List ℕ
