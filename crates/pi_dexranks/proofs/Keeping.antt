-- A list in rising order takes one thing more, unless it ends with that.
use Rattle.std.proofs.Common.{◌≡◌, ℕ, suc, ◌+◌, ◌-◌, true, false, List, [], ◌∷◌, ◌++◌, Some, length, Ordering, Less, Equal, Greater, ◌⊎◌, inl, inr, refl, sym, ap, ◌∙◌, subst, arith}
use Rattle.std.specs.Prelude.{slice_get}
use Rattle.std.specs.List.{All}
use Rattle.std.specs.List.Sorted.{IsStrictlySortedBy}
use Rattle.std.specs.Ordering.{is_lt}
use Rattle.std.proofs.lemmas.List.{length_push}
use Rattle.std.proofs.lemmas.List.Elements.{All-nil, All-cons, All-head, All-tail, All-push}
use Rattle.std.proofs.lemmas.Map.Keys.{sorted_tail}
use Rattle.std.proofs.lemmas.Map.Views.{All-after_first}
use Rattle.pi_classtables.proofs.Orders.{IsExactOrder, greater_back}
use Rattle.pi_classtables.proofs.Sortings.{rising_cons, rising_none}
use Rattle.pi_dexranks.specs.Kept.{EndsWith, IsKept}
use Rattle.pi_dexranks.proofs.Keying.{stays, stands_last}

-- what a list ends with it ends with behind one thing more in front
ends_behind : {A : Type 0} (x y z : A) (zs : List A) → EndsWith (z ∷ zs) x → EndsWith (y ∷ z ∷ zs) x
ends_behind x y z zs e =
    let long : suc (suc (length zs)) - 1 ≡ suc (length zs) = omega arith in
    let short : suc (length zs) - 1 ≡ length zs = omega arith in
    let here : slice_get (z ∷ zs) (length zs) ≡ Some x = subst (λ (k : ℕ). slice_get (z ∷ zs) k ≡ Some x) short e in
    subst (λ (k : ℕ). slice_get (y ∷ z ∷ zs) k ≡ Some x) (sym long) here

module _ {A : Type 0} {cmp : A → A → Ordering} (o : IsExactOrder cmp) where
  -- a list that rises to below a thing rises with that behind
  rising_push : (xs : List A) (x : A) → IsStrictlySortedBy cmp xs → All (λ (z : A). cmp z x ≡ Less) xs → IsStrictlySortedBy cmp (xs ++ x ∷ [])
  rising_push [] x rise low = rising_cons cmp x [] (All-nil (λ (z : A). cmp x z ≡ Less)) (rising_none cmp)
  rising_push (y ∷ ys) x rise low =
      rising_cons cmp y (ys ++ x ∷ [])
      (All-push (λ (z : A). cmp y z ≡ Less) ys x (All-after_first cmp y ys rise) (All-head (λ (z : A). cmp z x ≡ Less) y ys low))
      (rising_push ys x (sorted_tail cmp y ys rise) (All-tail (λ (z : A). cmp z x ≡ Less) y ys low))

  -- a thing that another is not below is below that or the same
  below_or_same : (z x : A) → is_lt (cmp x z) ≡ false → (cmp z x ≡ Less) ⊎ (z ≡ x)
  below_or_same z x h = by_order (cmp z x) refl
    where
      by_order : (r : Ordering) → cmp z x ≡ r → (cmp z x ≡ Less) ⊎ (z ≡ x)
      by_order Less e = inl e
      by_order Equal e = inr (o.same z x e)
      by_order Greater e = (let no : true ≡ false = sym (ap is_lt (greater_back o z x e)) ∙ h in absurd (cc))

  -- all of a list that rises are below a thing that is below none of them, unless the list ends with it
  all_below : (xs : List A) (x : A) → IsStrictlySortedBy cmp xs → All (λ (z : A). is_lt (cmp x z) ≡ false) xs → (EndsWith xs x → ⊥)
      → All (λ (z : A). cmp z x ≡ Less) xs
  all_below [] x rise up other = All-nil (λ (z : A). cmp z x ≡ Less)
  all_below (y ∷ []) x rise up other =
      All-cons (λ (z : A). cmp z x ≡ Less) y [] (first (below_or_same y x (All-head (λ (z : A). is_lt (cmp x z) ≡ false) y [] up)))
      (All-nil (λ (z : A). cmp z x ≡ Less))
    where
      first : (cmp y x ≡ Less) ⊎ (y ≡ x) → cmp y x ≡ Less
      first (inl e) = e
      first (inr same) = absurd (other (ap Some same))
  all_below (y ∷ z ∷ zs) x rise up other =
      let rest = all_below (z ∷ zs) x (sorted_tail cmp y (z ∷ zs) rise) (All-tail (λ (w : A). is_lt (cmp x w) ≡ false) y (z ∷ zs) up)
      (λ e. other (ends_behind x y z zs e)) in
      let next : cmp y z ≡ Less = All-head (λ (w : A). cmp y w ≡ Less) z zs (All-after_first cmp y (z ∷ zs) rise) in
      All-cons (λ (w : A). cmp w x ≡ Less) y (z ∷ zs) (o.total.trans y z x next (All-head (λ (w : A). cmp w x ≡ Less) z zs rest)) rest

  pub kept_rises : (old : List A) (x : A) (new : List A) → IsKept old x new → IsStrictlySortedBy cmp old → All (λ (z : A). is_lt (cmp x z) ≡ false) old
      → IsStrictlySortedBy cmp new
  kept_rises old x new (inl same) rise up = subst (IsStrictlySortedBy cmp) (sym same.1) rise
  kept_rises old x new (inr more) rise up = subst (IsStrictlySortedBy cmp) (sym more.1) (rising_push old x rise (all_below old x rise up more.0))

module _ {A : Type 0} where
  -- what stood there stands there still, and the thing stands last
  pub kept_stays : (old : List A) (x : A) (new : List A) → IsKept old x new → (k : ℕ) (y : A) → slice_get old k ≡ Some y → slice_get new k ≡ Some y
  kept_stays old x new (inl same) k y e = ap (λ (zs : List A). slice_get zs k) same.1 ∙ e
  kept_stays old x new (inr more) k y e = ap (λ (zs : List A). slice_get zs k) more.1 ∙ stays old (x ∷ []) k y e

  pub kept_at : (old : List A) (x : A) (new : List A) (r : ℕ) → IsKept old x new → r + 1 ≡ length new → slice_get new r ≡ Some x
  kept_at old x new r (inl same) e =
      let long : length new ≡ length old = ap length same.1 in
      let last : length old - 1 ≡ r = omega (arith, e, long) in
      ap (λ (zs : List A). slice_get zs r) same.1 ∙ subst (λ (k : ℕ). slice_get old k ≡ Some x) last same.0
  kept_at old x new r (inr more) e =
      let long : length new ≡ length (old ++ x ∷ []) = ap length more.1 in
      let last : length old ≡ r = omega (arith, e, long, length_push old x) in
      ap (λ (zs : List A). slice_get zs r) more.1 ∙ stands_last old x r last

  -- what holds of all and of the thing holds of all kept
  pub kept_all : (P : A → Type 0) (old : List A) (x : A) (new : List A) → IsKept old x new → All P old → P x → All P new
  kept_all P old x new (inl same) all one = subst (All P) (sym same.1) all
  kept_all P old x new (inr more) all one = subst (All P) (sym more.1) (All-push P old x all one)
