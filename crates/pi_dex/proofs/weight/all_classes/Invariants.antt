use Rattle.std.proofs.Common.{◌≡◌, ◌+◌, ◌-◌, ◌≤◌}
use Rattle.std.specs.Prelude.{sum_by}
use Rattle.pi_bytes.specs.Numbers.{most_bytes}
use Rattle.pi_format.specs.Tables.{count_at, class_defs}
use Rattle.pi_format.specs.Rules.Lowest.{tabulation}
use Rattle.pi_dex.specs.Weight.{class_weight, weight}
use Rattle.pi_dex.proofs.weight.all_classes.Given as goal

abbrev pub invariant-loop-i : goal.invariant-loop-i
invariant-loop-i l =
    (l.sum + sum_by (class_weight l.raw) (tabulation (λ k. k) l.i (count_at l.raw class_defs - l.i)) ≡ weight l.raw) × (l.sum ≤ most_bytes)
