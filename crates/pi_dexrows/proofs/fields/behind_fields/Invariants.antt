use Rattle.std.proofs.Common.{◌≡◌, drop}
use Rattle.pi_dexrows.specs.Taken.{behind_fields}
use Rattle.pi_dexrows.proofs.fields.behind_fields.Given as goal

abbrev pub invariant-loop-field : goal.invariant-loop-field
invariant-loop-field l = behind_fields (drop l.field-index l.fields) l.left ≡ behind_fields l.fields l.numbers
