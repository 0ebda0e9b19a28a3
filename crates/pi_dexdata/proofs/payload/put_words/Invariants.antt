use Rattle.std.proofs.Common.{◌≡◌, ◌++◌, take}
use Rattle.std.specs.List.{flat_map}
use Rattle.pi_classtables.specs.Layout.{word_units}
use Rattle.pi_dexdata.proofs.payload.put_words.Given as goal

abbrev pub invariant-loop-item : goal.invariant-loop-item
invariant-loop-item l = l.out ≡ l.fn.out ++ flat_map word_units (take l.item-index l.items)
