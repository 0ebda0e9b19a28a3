use Rattle.std.proofs.Common.{◌≡◌, ◌++◌, drop}
use Rattle.pi_dex.specs.Shared.{offsets_in}
use Rattle.pi_dex.proofs.offsets.add_offsets.Given as goal

abbrev pub invariant-loop-i : goal.invariant-loop-i
invariant-loop-i l = l.offsets.items ++ offsets_in (drop l.i l.rows) ≡ l.fn.offsets.items ++ offsets_in l.rows
