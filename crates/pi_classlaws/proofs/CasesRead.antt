-- The cases of a switch by the units of its keys and targets.
use Rattle.std.proofs.Common.{◌≡◌, ℕ, zero, suc, ◌+◌, ◌-◌, ◌*◌, ◌/◌, ◌%◌, ◌^◌, ◌<◌, List, [], ◌∷◌, length, get_or, Some, true, refl, sym, ◌∙◌, arith}
use Rattle.std.specs.Prelude.{◌==◌, int_lt}
use Rattle.std.specs.List.{All}
use Rattle.std.proofs.lemmas.Bool.{and_parts, or_right, eqb-true}
use Rattle.std.proofs.lemmas.List.Elements.{All-tail}
use Rattle.pi_model.specs.declared.insn.Case.{Case}
use Rattle.pi_insn.specs.Numbers.{signed_number, word}
use Rattle.pi_insn.specs.Payloads.{PackedData, SparseData}
use Rattle.pi_format.specs.Rules.Pieces.{signed_key, key_rises}
use Rattle.pi_format.specs.Rules.Pieces.{keys_rise as keys_rise_by_units}
use Rattle.pi_format.specs.Says.Insns.{case_target, cases_of}
use Rattle.pi_dextables.proofs.Each.{each_true}
use Rattle.pi_contents.specs.Asked.{follow_on, keys_rise}
use Rattle.pi_classtables.specs.Forms.{distance_bits}
use Rattle.pi_classtables.specs.Layout.{key_units, target_units, first_key}
use Rattle.pi_classtables.specs.Sized.{CaseSized}
use Rattle.pi_classlaws.proofs.Blocks.{listed_again, length-words, word_in}
use Rattle.pi_classlaws.proofs.Turned.{key_sum, target_again}

-- so many cases
half_of : (n : ℕ) → 2 * n / 2 ≡ n
half_of n = omega arith

targets_counted : (at : ℕ) (cases : List Case) → length (target_units at cases) / 2 ≡ length cases
targets_counted at cases = rw (length-words (λ (c : Case). distance_bits at c.to) cases) (half_of (length cases))

-- the target and the key of each
target_in : (at : ℕ) (cases : List Case) (k : ℕ) (d : Case) → at < 2 ^ 32 → (get_or cases k d).to < 2 ^ 32 → k < length cases
    → case_target at (target_units at cases) k ≡ (get_or cases k d).to
target_in at cases k d place end lt =
    rw (word_in (λ (c : Case). distance_bits at c.to) cases k d lt) (target_again at (get_or cases k d).to place end)

key_in : (cases : List Case) (k : ℕ) (d : Case) → k < length cases → word (key_units cases) (2 * k) ≡ (get_or cases k d).key
key_in cases k d lt = word_in (λ (c : Case). c.key) cases k d lt

-- keys that follow each other count from the first one up
next_key : (a b k : ℕ) → b ≡ (a + 1) % 2 ^ 32 → (b + k) % 2 ^ 32 ≡ (a + suc k) % 2 ^ 32
next_key a b k e = omega arith

counted : (cases : List Case) (k : ℕ) (d : Case) → follow_on cases ≡ true → All CaseSized cases → k < length cases
    → (first_key cases + k) % 2 ^ 32 ≡ (get_or cases k d).key
counted [] k d e sized lt = absurd (omega arith)
counted (c ∷ cs) zero d e sized lt =
    let fits = (sized 0 c (omega arith)).key in
    omega (arith, fits)
counted (c ∷ []) (suc k) d e sized lt = absurd (omega arith)
counted (c ∷ b ∷ cs) (suc k) d e sized lt =
    let both = and_parts (b.key == (c.key + 1) % 2 ^ 32) (follow_on (b ∷ cs)) e in
    sym (next_key c.key b.key k (eqb-true b.key ((c.key + 1) % 2 ^ 32) both.0)) ∙ counted (b ∷ cs) k d both.1 (All-tail CaseSized c (b ∷ cs) sized) (omega arith)

-- the first key has 32 bits
pub first_fits : (cases : List Case) → All CaseSized cases → first_key cases < 2 ^ 32
first_fits [] sized = omega arith
first_fits (c ∷ cs) sized = (sized 0 c (omega arith)).key

-- a case is its key and its target
made : (c : Case) (key to : ℕ) → key ≡ c.key → to ≡ c.to → record { key = key; to = to } ≡ c
made c key to e f = rw (e, f) refl

-- the cases of both kinds of payloads
pub packed_again : (at : ℕ) (cases : List Case) → follow_on cases ≡ true → All CaseSized cases → at < 2 ^ 32
    → cases_of at (Some (PackedData (signed_number 2147483648 (first_key cases)) (target_units at cases))) ≡ cases
packed_again at cases e sized place =
    listed_again _ (length (target_units at cases) / 2) cases (targets_counted at cases) (λ k d lt.
    made (get_or cases k d) _ _ (key_sum (first_key cases) k (first_fits cases sized) ∙ counted cases k d e sized lt) (target_in at cases k d place (sized k d lt).to lt))

pub sparse_again : (at : ℕ) (cases : List Case) → All CaseSized cases → at < 2 ^ 32
    → cases_of at (Some (SparseData (key_units cases) (target_units at cases))) ≡ cases
sparse_again at cases sized place =
    listed_again _ (length (target_units at cases) / 2) cases (targets_counted at cases) (λ k d lt.
    made (get_or cases k d) _ _ (key_in cases k d lt) (target_in at cases k d place (sized k d lt).to lt))

-- keys that rise do so by their units
rise_at : (cases : List Case) (k : ℕ) (d : Case) → keys_rise cases ≡ true → suc k < length cases
    → int_lt (signed_number 2147483648 (get_or cases k d).key) (signed_number 2147483648 (get_or cases (suc k) d).key) ≡ true
rise_at [] k d e lt = absurd (omega arith)
rise_at (c ∷ []) k d e lt = absurd (omega arith)
rise_at (c ∷ b ∷ cs) zero d e lt =
    (and_parts (int_lt (signed_number 2147483648 c.key) (signed_number 2147483648 b.key)) (keys_rise (b ∷ cs)) e).0
rise_at (c ∷ b ∷ cs) (suc k) d e lt =
    rise_at (b ∷ cs) k d (and_parts (int_lt (signed_number 2147483648 c.key) (signed_number 2147483648 b.key)) (keys_rise (b ∷ cs)) e).1 (omega arith)

key_rises_at : (cases : List Case) (k : ℕ) → keys_rise cases ≡ true → k < length cases → key_rises (key_units cases) k ≡ true
key_rises_at cases zero e lt = refl
key_rises_at cases (suc k) e lt =
    let before : suc k - 1 ≡ k = omega arith in
    let none : Case = record { key = 0; to = 0 } in
    or_right (suc k == 0) (int_lt (signed_key (key_units cases) (suc k - 1)) (signed_key (key_units cases) (suc k)))
    (rw (before, key_in cases k none (omega arith), key_in cases (suc k) none lt) (rise_at cases k none e lt))

pub keys_rise_again : (cases : List Case) → keys_rise cases ≡ true → keys_rise_by_units (key_units cases) ≡ true
keys_rise_again cases e =
    rw (length-words (λ (c : Case). c.key) cases, half_of (length cases)) (each_true (key_rises (key_units cases)) (length cases) (λ k lt. key_rises_at cases k e lt))
