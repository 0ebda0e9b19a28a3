use Rattle.std.proofs.Common.{◌≡◌, ◌++◌, take}
use Rattle.pi_classtables.specs.Layout.{key_units}
use Rattle.pi_dexdata.proofs.payload.put_keys.Given as goal

abbrev pub invariant-loop-case : goal.invariant-loop-case
invariant-loop-case l = l.out ≡ l.fn.out ++ key_units (take l.case-index l.cases)
