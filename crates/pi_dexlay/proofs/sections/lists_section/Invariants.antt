use Rattle.std.proofs.Common.{◌≡◌, ◌++◌, ◌+◌, ℕ, List, drop, length}
use Rattle.pi_parts.specs.Parts.{aligned, aligned_offsets}
use Rattle.pi_dexlay.proofs.sections.lists_section.Given as goal

abbrev pub invariant-loop-piece : goal.invariant-loop-piece
invariant-loop-piece l = record {
  bytes : l.bytes.items ++ aligned (λ (x : List ℕ). x) (l.begin + length l.bytes.items) (drop l.piece-index l.pool.keys) ≡ aligned (λ (x : List ℕ). x) l.begin l.pool.keys;
  offsets : l.offsets.items ++ aligned_offsets (λ (x : List ℕ). x) (l.begin + length l.bytes.items) (drop l.piece-index l.pool.keys)
      ≡ aligned_offsets (λ (x : List ℕ). x) l.begin l.pool.keys;
}
