use Rattle.std.proofs.Common.{◌≡◌, ◌+◌, ◌≤◌, drop}
use Rattle.pi_dextables.specs.Image.{positive}
use Rattle.pi_dexlay.proofs.kinds.positive.Given as goal

abbrev pub invariant-loop-count : goal.invariant-loop-count
invariant-loop-count l = record { rest : l.found + positive (drop l.count-index l.counts) ≡ positive l.counts; few : l.found ≤ l.count-index }
