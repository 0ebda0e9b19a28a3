use Rattle.std.proofs.Common.{◌≡◌, ◌-◌, ◌/◌, ◌++◌, length}
use Rattle.pi_format.specs.Rules.Lowest.{tabulation}
use Rattle.pi_dexcode.specs.Whole.{sparse_case}
use Rattle.pi_dexcode.proofs.data.sparse_cases.Given as goal

abbrev pub invariant-loop-k : goal.invariant-loop-k
invariant-loop-k l = l.cases.items ++ tabulation (sparse_case l.at l.keys l.targets) l.k (length l.targets / 2 - l.k) ≡ tabulation (sparse_case l.at l.keys l.targets) 0 (length l.targets / 2)
