-- The items of an array by their units, in each of the four widths.
use Rattle.std.proofs.Common.{◌≡◌, ℕ, zero, suc, ◌+◌, ◌*◌, ◌/◌, ◌%◌, ◌^◌, ◌<◌, List, [], ◌∷◌, length, get_or, slice_index, Some, true, ◌⊎◌, inl, inr, refl, sym, ap, ◌∙◌, subst, arith}
use Rattle.std.specs.Prelude.{◌==◌, ◌||◌}
use Rattle.std.specs.List.{All, flat_map}
use Rattle.std.proofs.lemmas.Bool.{or_cases, eqb-true}
use Rattle.std.proofs.lemmas.List.{get_or_default}
use Rattle.std.proofs.lemmas.List.Elements.{All-tail}
use Rattle.pi_insn.specs.Payloads.{ArrayData, is_width, units_for}
use Rattle.pi_format.specs.Says.Insns.{item_of, items_of}
use Rattle.pi_parts.proofs.Stands.{length_table}
use Rattle.pi_classtables.specs.Layout.{byte_units, long_units, item_units}
use Rattle.pi_classlaws.proofs.Blocks.{listed_again, block_at, length-words, word_in}

-- what holds of 1, 2, 4 and 8 holds of each width
pub by_width : (P : ℕ → Type 0) → P 1 → P 2 → P 4 → P 8 → (width : ℕ) → is_width width ≡ true → P width
by_width P one two four eight width e = last (or_cases ((width == 1) || (width == 2) || (width == 4)) (width == 8) e)
  where
    first : ((width == 1) ≡ true) ⊎ ((width == 2) ≡ true) → P width
    first (inl f) = subst P (sym (eqb-true width 1 f)) one
    first (inr f) = subst P (sym (eqb-true width 2 f)) two

    second : (((width == 1) || (width == 2)) ≡ true) ⊎ ((width == 4) ≡ true) → P width
    second (inl f) = first (or_cases (width == 1) (width == 2) f)
    second (inr f) = subst P (sym (eqb-true width 4 f)) four

    last : (((width == 1) || (width == 2) || (width == 4)) ≡ true) ⊎ ((width == 8) ≡ true) → P width
    last (inl f) = second (or_cases ((width == 1) || (width == 2)) (width == 4) f)
    last (inr f) = subst P (sym (eqb-true width 8 f)) eight

-- so many units
length-bytes : (items : List ℕ) → length (byte_units items) ≡ (length items + 1) / 2
length-bytes [] = refl
length-bytes (x ∷ []) = refl
length-bytes (x ∷ y ∷ items) = let rest = length-bytes items in omega arith

length-longs : (items : List ℕ) → length (flat_map long_units items) ≡ 4 * length items
length-longs items = length_table long_units 4 (λ x. refl) items

pub length-items : (width : ℕ) → is_width width ≡ true → (items : List ℕ) → length (item_units width items) ≡ units_for (width * length items)
length-items width e = by_width (λ w. (items : List ℕ) → length (item_units w items) ≡ units_for (w * length items))
    (λ items. length-bytes items ∙ (let n = length items in omega arith))
    (λ items. omega arith)
    (λ items. length-words (λ x. x) items ∙ (omega arith))
    (λ items. length-longs items ∙ (omega arith))
    width e

-- each item
byte_in : (items : List ℕ) (k d : ℕ) → All (λ x. x < 256) items → k < length items → item_of 1 (byte_units items) k ≡ get_or items k d
byte_in [] k d fit lt = absurd (omega arith)
byte_in (x ∷ []) zero d fit lt = let fits : x < 256 = fit 0 0 (omega arith) in omega arith
byte_in (x ∷ []) (suc k) d fit lt = absurd (omega arith)
byte_in (x ∷ y ∷ items) zero d fit lt = let fits : x < 256 = fit 0 0 (omega arith) in omega arith
byte_in (x ∷ y ∷ items) (suc zero) d fit lt = let fits : x < 256 = fit 0 0 (omega arith) in omega arith
byte_in (x ∷ y ∷ items) (suc (suc k)) d fit lt =
    let parity : suc (suc k) % 2 ≡ k % 2 = omega arith in
    let place : suc (suc k) / 2 ≡ suc (k / 2) = omega arith in
    rw (parity, place) (byte_in items k d (All-tail (λ x. x < 256) y items (All-tail (λ x. x < 256) x (y ∷ items) fit)) (omega arith))

-- a number of 64 bits by its units
four_units : (a b c e n : ℕ) → a ≡ n % 4294967296 % 65536 → b ≡ n % 4294967296 / 65536 → c ≡ n / 4294967296 % 65536
    → e ≡ n / 4294967296 / 65536 → a + 65536 * b + 4294967296 * (c + 65536 * e) ≡ n
four_units a b c e n p q r s = omega arith

long_in : (items : List ℕ) (k d : ℕ) → k < length items → item_of 8 (flat_map long_units items) k ≡ get_or items k d
long_in items k d lt =
    let units = flat_map long_units items in
    let n = get_or items k d in
    let start : 4 * k ≡ 4 * k + 0 = omega arith in
    let last : 4 * k + 2 + 1 ≡ 4 * k + 3 = omega arith in
    let at = λ (j : ℕ) (h : j < 4). block_at long_units 4 (λ x. refl) items k j d lt h in
    four_units (slice_index units (4 * k)) (slice_index units (4 * k + 1)) (slice_index units (4 * k + 2)) (slice_index units (4 * k + 2 + 1)) n
    (ap (slice_index units) start ∙ at 0 (omega arith)) (at 1 (omega arith)) (at 2 (omega arith)) (ap (slice_index units) last ∙ at 3 (omega arith))

item_in : (width : ℕ) → is_width width ≡ true → (items : List ℕ) (k d : ℕ) → All (λ x. x < 256 ^ width) items → k < length items
    → item_of width (item_units width items) k ≡ get_or items k d
item_in width e = by_width
    (λ w. (items : List ℕ) (k d : ℕ) → All (λ x. x < 256 ^ w) items → k < length items → item_of w (item_units w items) k ≡ get_or items k d)
    byte_in (λ items k d fit lt. get_or_default items k 0 d lt) (λ items k d fit lt. word_in (λ x. x) items k d lt) (λ items k d fit lt. long_in items k d lt) width e

-- so are all
pub items_again : (width : ℕ) (items : List ℕ) → is_width width ≡ true → All (λ x. x < 256 ^ width) items
    → items_of (Some (ArrayData width (length items) (item_units width items))) ≡ items
items_again width items e fit = listed_again (item_of width (item_units width items)) (length items) items refl (λ k d lt. item_in width e items k d fit lt)
