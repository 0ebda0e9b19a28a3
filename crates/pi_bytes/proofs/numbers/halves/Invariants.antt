use Rattle.std.proofs.Common.{◌≡◌, ◌+◌, ◌*◌, ◌-◌, ◌++◌}
use Rattle.pi_bytes.specs.Numbers.{halves_at}
use Rattle.pi_bytes.proofs.numbers.halves.Given as goal

abbrev pub invariant-loop-i : goal.invariant-loop-i
invariant-loop-i l = l.list.items ++ halves_at l.file (l.at + 2 * l.i) (l.n - l.i) ≡ halves_at l.file l.at l.n
