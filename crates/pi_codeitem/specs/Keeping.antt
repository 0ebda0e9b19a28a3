-- What is kept of a walk over units.
use Rattle.std.specs.Prelude.{◌≡◌, ◌≤◌, ℕ, List, length, map, Option}
use Rattle.pi_bytes.specs.Numbers.{most_bytes}
use Rattle.pi_format.specs.Rules.Pieces.{Piece, walk}
use Rattle.pi_codeitem.specs.Asking.{asker}
use Rattle.pi_codeitem.specs.Places.{AreStarts}

-- the addresses at which the pieces of a walk begin, the opcodes of the instructions that may point at each, and its stop
pub record IsWalk (units starts : List ℕ) (askers : List (Option ℕ)) (stop : Option ℕ) : Type 0 where
  pub few : length units ≤ most_bytes
  pub begins : AreStarts (λ (p : Piece). p.at) starts (walk units).pieces
  pub asked : askers ≡ map (λ (p : Piece). asker p.what) (walk units).pieces
  pub stops : stop ≡ (walk units).stop
