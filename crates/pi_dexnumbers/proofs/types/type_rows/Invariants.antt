use Rattle.std.proofs.Common.{◌≡◌, take, map}
use Rattle.pi_dexnumbers.specs.Rows.{type_row}
use Rattle.pi_dexnumbers.proofs.types.type_rows.Given as goal

abbrev pub invariant-loop-text : goal.invariant-loop-text
invariant-loop-text l = l.rows ≡ map (type_row l.texts) (take l.text-index l.types)
