use Rattle.std.proofs.Common.{◌≡◌, ℕ, List, ◌++◌, length}
use Rattle.pi_base.specs.Outside.{Took}
use Rattle.pi_base.proofs.put.put_all.Given as goal

-- what was taken so far and the rest are the piece, and the sink took that and no fault rose
abbrev pub invariant-loop-rest : goal.invariant-loop-rest
invariant-loop-rest g l =
    record {
      taken : List ℕ;
      whole : taken ++ l.rest ≡ l.fn.piece;
      took : Took taken (g.S.Sink.view l.initial.sink) (g.S.Sink.view l.sink);
    }

abbrev pub decreases-loop-rest : goal.decreases-loop-rest
decreases-loop-rest g l = length l.rest
