use Rattle.std.proofs.Common.{◌≡◌, ◌++◌, drop}
use Rattle.pi_dexdata.specs.Grouped.{maybe_before, grouped}
use Rattle.pi_dexdata.proofs.groups.groups_of.Given as goal

abbrev pub invariant-loop-entry : goal.invariant-loop-entry
invariant-loop-entry l = l.groups ++ maybe_before l.current (grouped (drop l.entry-index l.entries) l.left) ≡ grouped l.entries l.numbers
