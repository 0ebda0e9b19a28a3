-- Where the items of an array's data stand.
use Rattle.std.proofs.Common.{◌≡◌, ◌⊎◌, inl, inr, ℕ, ◌+◌, ◌*◌, ◌<◌, ◌≤◌, List, length, arith, sym, subst}
use Rattle.pi_dexcode.specs.Whole.{IsItems}

-- fewer items stand whole as well
pub fewer_items : (width k size : ℕ) (units : List ℕ) → k < size → IsItems width size units → IsItems width (k + 1) units
fewer_items width k size units lt items = record {
  known = items.known;
  whole = by_width items.known;
}
  where
    of_width : (w : ℕ) → width ≡ w → (w * size ≤ 2 * length units → w * (k + 1) ≤ 2 * length units) → width * (k + 1) ≤ 2 * length units
    of_width w e fewer = subst (λ (v : ℕ). v * (k + 1) ≤ 2 * length units) (sym e) (fewer (subst (λ (v : ℕ). v * size ≤ 2 * length units) e items.whole))

    by_width : (width ≡ 1) ⊎ ((width ≡ 2) ⊎ ((width ≡ 4) ⊎ (width ≡ 8))) → width * (k + 1) ≤ 2 * length units
    by_width (inl e) = of_width 1 e (λ whole. omega (arith, lt, whole))
    by_width (inr (inl e)) = of_width 2 e (λ whole. omega (arith, lt, whole))
    by_width (inr (inr (inl e))) = of_width 4 e (λ whole. omega (arith, lt, whole))
    by_width (inr (inr (inr e))) = of_width 8 e (λ whole. omega (arith, lt, whole))
