use Rattle.std.proofs.Common.{◌≡◌, ◌++◌, take}
use Rattle.pi_dexdata.proofs.payload.put_halves.Given as goal

abbrev pub invariant-loop-item : goal.invariant-loop-item
invariant-loop-item l = l.out ≡ l.fn.out ++ take l.item-index l.items
