use Rattle.std.proofs.Common.{◌≡◌, ◌≤◌, map, take}
use Rattle.pi_dexrows.specs.declared.fields.FieldPart.{FieldPart}
use Rattle.pi_dexrows.specs.Parts.{set_values}
use Rattle.pi_dexrows.proofs.values.set_count.Given as goal

abbrev pub invariant-loop-place : goal.invariant-loop-place
invariant-loop-place l = record {
  within : l.count ≤ l.place;
  values : set_values (take l.place l.fields) ≡ map (λ (f : FieldPart). f.value) (take l.count l.fields);
}
