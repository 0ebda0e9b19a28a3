use Rattle.std.proofs.Common.{◌≡◌, ◌-◌, ◌+◌, drop, length}
use Rattle.pi_format.specs.Rules.ClassData.{are_apart}
use Rattle.pi_classdata.proofs.apart.are_apart.Given as goal

abbrev pub invariant-loop-i : goal.invariant-loop-i
invariant-loop-i l = are_apart (drop l.i l.xs) (drop l.j l.ys) ≡ are_apart l.xs l.ys

abbrev pub decreases-loop-i : goal.decreases-loop-i
decreases-loop-i l = (length l.xs - l.i) + (length l.ys - l.j)
