use Rattle.std.proofs.Common.{◌≡◌, ◌-◌, ◌++◌}
use Rattle.pi_format.specs.Rules.Lowest.{tabulation}
use Rattle.pi_format.specs.Says.Insns.{item_of}
use Rattle.pi_dexcode.proofs.data.all_items.Given as goal

abbrev pub invariant-loop-k : goal.invariant-loop-k
invariant-loop-k l = l.items.items ++ tabulation (item_of l.width l.units) l.k (l.size - l.k) ≡ tabulation (item_of l.width l.units) 0 l.size
