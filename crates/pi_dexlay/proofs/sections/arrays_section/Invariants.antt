use Rattle.std.proofs.Common.{◌≡◌, ◌++◌, ◌+◌, ℕ, List, drop, length}
use Rattle.std.specs.List.{flat_map}
use Rattle.pi_parts.specs.Parts.{offsets}
use Rattle.pi_dexlay.proofs.sections.arrays_section.Given as goal

abbrev pub invariant-loop-piece : goal.invariant-loop-piece
invariant-loop-piece l = record {
  bytes : l.bytes.items ++ flat_map (λ (x : List ℕ). x) (drop l.piece-index l.pool.keys) ≡ flat_map (λ (x : List ℕ). x) l.pool.keys;
  offsets : l.offsets.items ++ offsets (λ (x : List ℕ). x) (l.begin + length l.bytes.items) (drop l.piece-index l.pool.keys)
      ≡ offsets (λ (x : List ℕ). x) l.begin l.pool.keys;
}
