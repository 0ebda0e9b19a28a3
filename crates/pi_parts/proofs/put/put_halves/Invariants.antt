use Rattle.std.proofs.Common.{◌≡◌, ◌++◌, take}
use Rattle.pi_parts.specs.Parts.{halves}
use Rattle.pi_parts.proofs.put.put_halves.Given as goal

abbrev pub invariant-loop-x : goal.invariant-loop-x
invariant-loop-x l = l.out.items ≡ l.fn.out.items ++ halves (take l.x-index l.xs)
