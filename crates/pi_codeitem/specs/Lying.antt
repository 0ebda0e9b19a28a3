-- Pieces one behind the other.
use Rattle.std.specs.Prelude.{◌≡◌, ◌+◌, ◌≤◌, ℕ, List, [], ◌∷◌, Option, Some, None}
use Rattle.pi_format.specs.Rules.Pieces.{Piece}

-- each piece begins where the one before it ends, from one address to another, and has a unit at least
abbrev pub FillUp : ℕ → List Piece → ℕ → Type 0
FillUp from [] to = from ≡ to
FillUp from (p ∷ ps) to = (p.at ≡ from) × (1 ≤ p.units) × FillUp (from + p.units) ps to

-- where a walk ends: at its stop, or else behind all units
abbrev pub end_of : Option ℕ → ℕ → ℕ
end_of (Some at) units = at
end_of None units = units
