-- How many registers frames have.
use Rattle.std.specs.Prelude.{ℕ, List, length, map}
use Rattle.pi_frames.specs.Frames.{Frame}

-- the numbers of registers, the top frame's first
abbrev pub registers : List Frame → List ℕ
registers fs = map (λ f. length f.regs) fs
