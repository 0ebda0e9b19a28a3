use Rattle.std.proofs.Common.{◌≡◌, ◌+◌, ◌≤◌, drop}
use Rattle.std.specs.Prelude.{sum_by}
use Rattle.pi_bytes.specs.Numbers.{most_bytes}
use Rattle.pi_dex.specs.Weight.{piece_weight}
use Rattle.pi_dex.proofs.weight.with_pieces.Given as goal

abbrev pub invariant-loop-k : goal.invariant-loop-k
invariant-loop-k l =
    (l.sum + sum_by (piece_weight l.raw l.walk.pieces) (drop l.k l.walk.pieces) ≡ l.total + sum_by (piece_weight l.raw l.walk.pieces) l.walk.pieces)
    × (l.sum ≤ most_bytes)
