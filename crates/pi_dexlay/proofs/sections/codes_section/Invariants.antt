use Rattle.std.proofs.Common.{◌≡◌, ◌++◌, ◌+◌, drop, length}
use Rattle.std.specs.Prelude.{◌&&◌}
use Rattle.pi_parts.specs.Parts.{aligned, aligned_offsets}
use Rattle.pi_dextables.specs.Codes.{code_item}
use Rattle.pi_dextables.specs.Rows.{all_bodies}
use Rattle.pi_dexlay.specs.Heads.{all_fit}
use Rattle.pi_dexlay.proofs.sections.codes_section.Given as goal

abbrev pub invariant-loop-class : goal.invariant-loop-class
invariant-loop-class l = record {
  bytes : l.made.bytes.items ++ aligned code_item (l.begin + length l.made.bytes.items) (all_bodies (drop l.class-index l.classes))
      ≡ aligned code_item l.begin (all_bodies l.classes);
  offsets : l.made.offsets.items ++ aligned_offsets code_item (l.begin + length l.made.bytes.items) (all_bodies (drop l.class-index l.classes))
      ≡ aligned_offsets code_item l.begin (all_bodies l.classes);
  fit : (l.made.fit && all_fit (all_bodies (drop l.class-index l.classes))) ≡ all_fit (all_bodies l.classes);
}
