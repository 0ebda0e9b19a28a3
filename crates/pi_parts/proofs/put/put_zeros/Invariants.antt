use Rattle.std.proofs.Common.{◌≡◌, ◌++◌}
use Rattle.pi_parts.specs.Parts.{zeros}
use Rattle.pi_parts.proofs.put.put_zeros.Given as goal

abbrev pub invariant-loop : goal.invariant-loop
invariant-loop l = l.out.items ≡ l.fn.out.items ++ zeros l.counter
