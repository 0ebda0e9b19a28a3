use Rattle.std.proofs.Common.{◌≡◌, ◌++◌, take}
use Rattle.pi_classtables.specs.Layout.{target_units}
use Rattle.pi_dexdata.proofs.payload.put_targets.Given as goal

abbrev pub invariant-loop-case : goal.invariant-loop-case
invariant-loop-case l = l.out ≡ l.fn.out ++ target_units l.at (take l.case-index l.cases)
