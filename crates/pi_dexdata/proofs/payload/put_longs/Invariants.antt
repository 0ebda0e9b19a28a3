use Rattle.std.proofs.Common.{◌≡◌, ◌++◌, take}
use Rattle.std.specs.List.{flat_map}
use Rattle.pi_classtables.specs.Layout.{long_units}
use Rattle.pi_dexdata.proofs.payload.put_longs.Given as goal

abbrev pub invariant-loop-item : goal.invariant-loop-item
invariant-loop-item l = l.out ≡ l.fn.out ++ flat_map long_units (take l.item-index l.items)
