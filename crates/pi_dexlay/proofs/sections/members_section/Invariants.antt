use Rattle.std.proofs.Common.{◌≡◌, ◌++◌, ◌+◌, drop, length}
use Rattle.std.specs.List.{flat_map}
use Rattle.pi_parts.specs.Parts.{offsets}
use Rattle.pi_dextables.specs.Rows.{all_rows, class_data}
use Rattle.pi_dexlay.proofs.sections.members_section.Given as goal

abbrev pub invariant-loop-class : goal.invariant-loop-class
invariant-loop-class l = record {
  bytes : l.bytes.items ++ flat_map class_data (all_rows l.left (drop l.class-index l.classes)) ≡ flat_map class_data (all_rows l.codes l.classes);
  offsets : l.offsets.items ++ offsets class_data (l.begin + length l.bytes.items) (all_rows l.left (drop l.class-index l.classes))
      ≡ offsets class_data l.begin (all_rows l.codes l.classes);
}
