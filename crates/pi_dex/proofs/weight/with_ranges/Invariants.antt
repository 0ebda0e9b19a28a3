use Rattle.std.proofs.Common.{◌≡◌, ◌+◌, ◌-◌, ◌≤◌, Some}
use Rattle.std.specs.Prelude.{sum_by}
use Rattle.pi_bytes.specs.Numbers.{most_bytes}
use Rattle.pi_format.specs.Rules.Lowest.{tabulation}
use Rattle.pi_dex.specs.Weight.{range_handlers, all_handlers}
use Rattle.pi_dex.proofs.weight.with_ranges.Given as goal

abbrev pub invariant-loop-k : goal.invariant-loop-k
invariant-loop-k l =
    (l.sum + sum_by (range_handlers l.file l.at l.head l.lists) (tabulation (λ i. i) l.k (l.head.tries - l.k)) ≡ l.total + all_handlers l.file l.at l.head (Some l.lists))
    × (l.sum ≤ most_bytes)
