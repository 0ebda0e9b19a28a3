use Rattle.pi_dexspelled.proofs.Fronts.{Begun}
use Rattle.pi_dexspelled.proofs.front.front_of.Given as goal

abbrev pub invariant-loop-count : goal.invariant-loop-count
invariant-loop-count l = Begun l.lines l.count l.end
