-- Cutting bytes at a mark, and the first line of a text.
use Rattle.std.proofs.Common.{◌≡◌, ◌≢◌, ℕ, zero, suc, ◌<◌, ◌==◌, List, [], ◌∷◌, ◌++◌, length, take, drop, slice_index, inl, inr, refl, ap, arith}
use Rattle.std.proofs.lemmas.Bool.{cases_Bool, eq-eqb, ne_eqb}
use Rattle.std.specs.List.{All}
use Rattle.std.proofs.lemmas.List.Elements.{All-head, All-tail}
use Rattle.pi_job.specs.Lines.{before_line, lines, front_of, behind_of}

-- the first mark stands at a place
pub cut_at : (mark : ℕ) (bs : List ℕ) (at : ℕ) → at < length bs → ((k : ℕ) → k < at → slice_index bs k ≢ mark)
    → slice_index bs at ≡ mark → (front_of mark bs ≡ take at bs) × (behind_of mark bs ≡ drop (suc at) bs)
cut_at mark [] at lt none here = absurd (omega arith)
cut_at mark (b ∷ bs) zero lt none here = rw (eq-eqb b mark here) (refl, refl)
cut_at mark (b ∷ bs) (suc at) lt none here =
    let rest = cut_at mark bs at (omega arith) (λ k below. none (suc k) (omega arith)) here in
    rw (ne_eqb b mark (none zero (omega arith))) (ap (λ (cs : List ℕ). b ∷ cs) rest.0, rest.1)

-- there is no mark
pub cut_nowhere : (mark : ℕ) (bs : List ℕ) → ((k : ℕ) → k < length bs → slice_index bs k ≢ mark)
    → (front_of mark bs ≡ bs) × (behind_of mark bs ≡ [])
cut_nowhere mark [] none = (refl, refl)
cut_nowhere mark (b ∷ bs) none =
    let rest = cut_nowhere mark bs (λ k below. none (suc k) (omega arith)) in
    rw (ne_eqb b mark (none zero (omega arith))) (ap (λ (cs : List ℕ). b ∷ cs) rest.0, rest.1)

joins : (b : ℕ) (bs : List ℕ) → (0 < length bs → lines bs ≡ front_of 10 bs ∷ lines (behind_of 10 bs))
    → before_line b (lines bs) ≡ (b ∷ front_of 10 bs) ∷ lines (behind_of 10 bs)
joins b [] again = refl
joins b (c ∷ cs) again = ap (before_line b) (again (omega arith))

-- the first line is what stands before the first newline
pub lines_cut : (bs : List ℕ) → 0 < length bs → lines bs ≡ front_of 10 bs ∷ lines (behind_of 10 bs)
lines_cut [] lt = absurd (omega arith)
lines_cut (b ∷ bs) lt = elim (cases_Bool (b == 10)) [ inl e ↦ rw e refl | inr e ↦ rw e (joins b bs (lines_cut bs)) ]

-- a line and the newline that ends it
pub ended_line : (line rest : List ℕ) → All (λ b. b ≢ 10) line → lines (line ++ 10 ∷ rest) ≡ line ∷ lines rest
ended_line [] rest none = refl
ended_line (b ∷ line) rest none =
    rw (ne_eqb b 10 (All-head (λ (c : ℕ). c ≢ 10) b line none))
    (ap (before_line b) (ended_line line rest (All-tail (λ (c : ℕ). c ≢ 10) b line none)))

-- a last line that no newline ends
pub last_line : (line : List ℕ) → All (λ b. b ≢ 10) line → 0 < length line → lines line ≡ line ∷ []
last_line [] none lt = absurd (omega arith)
last_line (b ∷ []) none lt = rw (ne_eqb b 10 (All-head (λ (c : ℕ). c ≢ 10) b [] none)) refl
last_line (b ∷ c ∷ line) none lt =
    rw (ne_eqb b 10 (All-head (λ (d : ℕ). d ≢ 10) b (c ∷ line) none))
    (ap (before_line b) (last_line (c ∷ line) (All-tail (λ (d : ℕ). d ≢ 10) b (c ∷ line) none) (omega arith)))
