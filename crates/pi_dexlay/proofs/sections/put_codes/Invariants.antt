use Rattle.std.proofs.Common.{◌≡◌, ◌++◌, ◌+◌, drop, length}
use Rattle.std.specs.Prelude.{◌&&◌}
use Rattle.pi_parts.specs.Parts.{aligned, aligned_offsets}
use Rattle.pi_dextables.specs.Codes.{code_item}
use Rattle.pi_dextables.specs.Rows.{bodies_in}
use Rattle.pi_dexlay.specs.Heads.{all_fit}
use Rattle.pi_dexlay.proofs.sections.put_codes.Given as goal

abbrev pub invariant-loop-method : goal.invariant-loop-method
invariant-loop-method l = record {
  bytes : l.made.bytes.items ++ aligned code_item (l.begin + length l.made.bytes.items) (bodies_in (drop l.method-index l.methods))
      ≡ l.fn.made.bytes.items ++ aligned code_item (l.begin + length l.fn.made.bytes.items) (bodies_in l.methods);
  offsets : l.made.offsets.items ++ aligned_offsets code_item (l.begin + length l.made.bytes.items) (bodies_in (drop l.method-index l.methods))
      ≡ l.fn.made.offsets.items ++ aligned_offsets code_item (l.begin + length l.fn.made.bytes.items) (bodies_in l.methods);
  fit : (l.made.fit && all_fit (bodies_in (drop l.method-index l.methods))) ≡ (l.fn.made.fit && all_fit (bodies_in l.methods));
}
