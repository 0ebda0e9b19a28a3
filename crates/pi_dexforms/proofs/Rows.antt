-- Registers in a row by their places.
use Rattle.std.proofs.Common.{◌≡◌, ℕ, ◌+◌, ◌%◌, ◌<◌, List, length, get_or, slice_get, Some, ap, sym, ◌∙◌, arith}
use Rattle.std.proofs.lemmas.Grind.{same_number_lists}
use Rattle.std.proofs.lemmas.Option.{slice_get-get_or}
use Rattle.pi_model.specs.Registers.{registers_in_row}
use Rattle.pi_model.proofs.Registers.{length_row, get_row}

-- what a list has at a place that it has is read with any default
pub read_at : (regs : List ℕ) (k r : ℕ) → k < length regs → slice_get regs k ≡ Some r → get_or regs k 0 ≡ r
read_at regs k r inside e = let read = slice_get-get_or regs k 0 inside in cc

row_at : (first n k : ℕ) → k < n → get_or (registers_in_row first n) k 0 ≡ (first + k) % 65536
row_at first n k lt =
    let long = length_row first n in
    read_at (registers_in_row first n) k ((first + k) % 65536) (omega arith) (get_row first n k lt)

-- registers of which each is the next one of a row are that row
pub row_whole : (first : ℕ) (regs : List ℕ) → ((k : ℕ) → k < length regs → slice_get regs k ≡ Some ((first + k) % 65536))
    → registers_in_row first (length regs) ≡ regs
row_whole first regs follow =
    same_number_lists (registers_in_row first (length regs)) regs (length_row first (length regs))
    (λ k lt.
    let long = length_row first (length regs) in
    let inside : k < length regs = omega arith in
    row_at first (length regs) k inside ∙ sym (read_at regs k ((first + k) % 65536) inside (follow k inside)))

-- the registers of a row follow each other
pub row_follows : (first : ℕ) (regs : List ℕ) (k : ℕ) → k < length regs → registers_in_row first (length regs) ≡ regs
    → slice_get regs k ≡ Some ((first + k) % 65536)
row_follows first regs k lt whole = let at = get_row first (length regs) k lt in cc (ap (λ rs. slice_get rs k) whole)

-- the register behind one of a row
pub row_next : (first k : ℕ) → ((first + k) % 65536 + 1) % 65536 ≡ (first + (k + 1)) % 65536
row_next first k = omega arith
