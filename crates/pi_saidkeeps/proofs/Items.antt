-- The items of an array's data fit their width.
use Rattle.std.proofs.Common.{◌≡◌, ◌⊎◌, inl, inr, ℕ, zero, suc, ◌+◌, ◌*◌, ◌/◌, ◌%◌, ◌^◌, ◌<◌, List, [], ◌∷◌, Bool, true, false, refl, sym, subst, arith}
use Rattle.std.specs.Prelude.{◌==◌, nat_lt, slice_index, if◌then◌else◌}
use Rattle.std.specs.List.{list_all}
use Rattle.std.proofs.lemmas.Bool.{and_parts, lt-ltb, ltb-true}
use Rattle.std.proofs.lemmas.Bool.Decides.{nat_tests}
use Rattle.pi_insn.specs.Numbers.{word}
use Rattle.pi_insn.specs.Payloads.{is_width}
use Rattle.pi_format.specs.Rules.Lowest.{tabulation}
use Rattle.pi_format.specs.Says.Insns.{item_of}
use Rattle.pi_said.proofs.Lists.{listed_all}
use Rattle.pi_saidkeeps.proofs.Payloads.{is_unit, are_units}

widths : (n : ℕ) → is_width n ≡ true → (n ≡ 1) ⊎ ((n ≡ 2) ⊎ ((n ≡ 4) ⊎ (n ≡ 8)))
widths n e = by_tests (n == 1) (n == 2) (n == 4) refl refl refl
  where
    by_tests : (a b c : Bool) → (n == 1) ≡ a → (n == 2) ≡ b → (n == 4) ≡ c → (n ≡ 1) ⊎ ((n ≡ 2) ⊎ ((n ≡ 4) ⊎ (n ≡ 8)))
    by_tests true b c f g h = inl (grind (arith, nat_tests))
    by_tests false true c f g h = inr (inl (grind (arith, nat_tests)))
    by_tests false false true f g h = inr (inr (inl (grind (arith, nat_tests))))
    by_tests false false false f g h = inr (inr (inr (grind (arith, nat_tests))))

unit_at : (us : List ℕ) (k : ℕ) → are_units us ≡ true → slice_index us k < 65536
unit_at [] k all = omega arith
unit_at (u ∷ us) zero all = ltb-true u 65536 ((and_parts (is_unit u) (are_units us) all).0)
unit_at (u ∷ us) (suc k) all = unit_at us k ((and_parts (is_unit u) (are_units us) all).1)

word_small : (us : List ℕ) (k : ℕ) → are_units us ≡ true → word us k < 4294967296
word_small us k all =
    let low = unit_at us k all in
    let high = unit_at us (k + 1) all in
    omega arith

-- the test of an item of that width
abbrev Fits : List ℕ → ℕ → ℕ → Type 0
Fits us k width = nat_lt (item_of width us k) (256 ^ width) ≡ true

byte_fits : (us : List ℕ) (k : ℕ) → are_units us ≡ true → Fits us k 1
byte_fits us k all = by_half (k % 2 == 0) (slice_index us (k / 2)) (unit_at us (k / 2) all)
  where
    by_half : (b : Bool) (u : ℕ) → u < 65536 → nat_lt (if b then u % 256 else u / 256) 256 ≡ true
    by_half true u lt = lt-ltb (u % 256) 256 (omega arith)
    by_half false u lt = lt-ltb (u / 256) 256 (omega arith)

long_fits : (us : List ℕ) (k : ℕ) → are_units us ≡ true → Fits us k 8
long_fits us k all =
    let low = word_small us (4 * k) all in
    let high = word_small us (4 * k + 2) all in
    lt-ltb (item_of 8 us k) (256 ^ 8) (omega arith)

item_fits : (us : List ℕ) (k width : ℕ) → are_units us ≡ true → (width ≡ 1) ⊎ ((width ≡ 2) ⊎ ((width ≡ 4) ⊎ (width ≡ 8))) → Fits us k width
item_fits us k width all (inl e) = subst (Fits us k) (sym e) (byte_fits us k all)
item_fits us k width all (inr (inl e)) = subst (Fits us k) (sym e) (lt-ltb (slice_index us k) 65536 (unit_at us k all))
item_fits us k width all (inr (inr (inl e))) = subst (Fits us k) (sym e) (lt-ltb (word us (2 * k)) 4294967296 (word_small us (2 * k) all))
item_fits us k width all (inr (inr (inr e))) = subst (Fits us k) (sym e) (long_fits us k all)

pub items_fit : (width size : ℕ) (us : List ℕ) → is_width width ≡ true → are_units us ≡ true
    → list_all (λ x. nat_lt x (256 ^ width)) (tabulation (item_of width us) 0 size) ≡ true
items_fit width size us is all = listed_all (λ x. nat_lt x (256 ^ width)) (item_of width us) 0 size (λ k lt. item_fits us k width all (widths width is))
