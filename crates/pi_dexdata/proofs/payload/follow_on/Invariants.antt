use Rattle.std.proofs.Common.{◌≡◌, length}
use Rattle.pi_contents.specs.Asked.{follow_on}
use Rattle.pi_dexdata.proofs.payload.follow_on.Given as goal

abbrev pub invariant-loop-rest : goal.invariant-loop-rest
invariant-loop-rest l = follow_on l.rest ≡ follow_on l.cases

abbrev pub decreases-loop-rest : goal.decreases-loop-rest
decreases-loop-rest l = length l.rest
