use Rattle.std.proofs.Common.{◌≡◌, ◌++◌, drop, map}
use Rattle.pi_dex.specs.Weight.{code_weight}
use Rattle.pi_dex.proofs.weight.code_weights.Given as goal

abbrev pub invariant-loop-i : goal.invariant-loop-i
invariant-loop-i l = l.weights.items ++ map (code_weight l.raw) (drop l.i l.codes) ≡ map (code_weight l.raw) l.codes
