use Rattle.std.proofs.Common.{◌≡◌, ◌-◌, ◌/◌, ◌++◌, length}
use Rattle.pi_format.specs.Rules.Lowest.{tabulation}
use Rattle.pi_dexcode.specs.Whole.{packed_case}
use Rattle.pi_dexcode.proofs.data.packed_cases.Given as goal

abbrev pub invariant-loop-k : goal.invariant-loop-k
invariant-loop-k l = l.cases.items ++ tabulation (packed_case l.at l.first l.targets) l.k (length l.targets / 2 - l.k) ≡ tabulation (packed_case l.at l.first l.targets) 0 (length l.targets / 2)
