use Rattle.std.proofs.Common.{◌≡◌, ℕ, List, drop}
use Rattle.pi_contents.specs.Named.{text_in}
use Rattle.pi_classtables.specs.Numbers.{Pools}
use Rattle.pi_dexrows.specs.Parts.{field_numbers}
use Rattle.pi_dexrows.proofs.FieldSteps.{FieldsMade}
use Rattle.pi_dexrows.proofs.fields.field_parts.Given as goal

abbrev pub invariant-loop-field : goal.invariant-loop-field
invariant-loop-field l = (p : Pools) (class rest : List ℕ) → l.fn.numbers ≡ field_numbers p (text_in l.prog) class l.fields rest
    → FieldsMade p (text_in l.prog) class l.fields rest (drop l.field-index l.fields) l.left l.parts
