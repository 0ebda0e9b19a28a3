use Rattle.std.proofs.Common.{◌≡◌, ◌+◌, ◌≤◌, drop}
use Rattle.std.specs.Prelude.{sum_by}
use Rattle.pi_bytes.specs.Numbers.{most_bytes}
use Rattle.pi_dex.specs.Weight.{method_weight}
use Rattle.pi_dex.proofs.weight.with_methods.Given as goal

abbrev pub invariant-loop-i : goal.invariant-loop-i
invariant-loop-i l =
    (l.sum + sum_by (method_weight l.raw) (drop l.i l.rows) ≡ l.total + sum_by (method_weight l.raw) l.rows) × (l.sum ≤ most_bytes)
