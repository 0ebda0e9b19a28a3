-- Marks of the interfaces of class definitions.
use Rattle.std.proofs.Common.{ℕ, ◌+◌, List, arith}
use Rattle.std.proofs.lemmas.Option.{get_or_from_slice_get}
use Rattle.pi_dexids.specs.Facts.{AreFacts}
use Rattle.pi_dexraw.specs.Interfaces.{AreInRange}

-- marks that are all the same
pub same_marks : (mark n : ℕ) (marks : List ℕ) → AreFacts (λ k. mark) n marks → AreInRange (mark + 1) marks
same_marks mark n marks facts = record {
  below = λ k lt.
      let is = get_or_from_slice_get marks k mark 0 (facts.each k (omega (arith, facts.counted))) in
      omega (arith, is);
}
