-- Lists in which nothing stands twice, and how long they are in order.
use Rattle.std.proofs.Common.{◌≡◌, ℕ, suc, Bool, true, false, List, [], ◌∷◌, ◌++◌, length, map, Ordering, Less, Equal, Greater, refl, sym, ap, ◌∙◌, subst}
use Rattle.std.specs.Prelude.{if◌then◌else◌}
use Rattle.std.specs.List.{All, list_any}
use Rattle.std.proofs.lemmas.List.Elements.{All-nil, All-cons, All-head, All-tail, All-push}
use Rattle.std.proofs.lemmas.Bool.{or_parts, both_ways}
use Rattle.pi_classtables.specs.Sorted.{with_placed, sorted}
use Rattle.pi_classtables.proofs.Orders.{IsExactOrder}
use Rattle.pi_classtables.proofs.Sortings.{all_sorted}
use Rattle.pi_dexpools.specs.Gathered.{with_new}
use Rattle.pi_poollaws.proofs.Lists.{IsExact}

-- a thing is none of a list; no thing stands twice
abbrev pub IsNoneOf : {A : Type 0} → A → List A → Type 0
IsNoneOf x xs = All (λ y. x ≡ y → ⊥) xs

abbrev pub AreApart : {A : Type 0} → List A → Type 0
AreApart [] = Unit {0}
AreApart (x ∷ xs) = IsNoneOf x xs × AreApart xs

apart_push : {A : Type 0} (xs : List A) (x : A) → AreApart xs → IsNoneOf x xs → AreApart (xs ++ x ∷ [])
apart_push [] x apart none = (All-nil (λ y. x ≡ y → ⊥), tt)
apart_push (y ∷ ys) x apart none =
    let other = All-head (λ z. x ≡ z → ⊥) y ys none in
    (All-push (λ z. y ≡ z → ⊥) ys x (apart.0) (λ e. other (sym e)), apart_push ys x (apart.1) (All-tail (λ z. x ≡ z → ⊥) y ys none))

not_found : {A : Type 0} {same : A → A → Bool} → IsExact same → (x : A) (xs : List A) → list_any (same x) xs ≡ false → IsNoneOf x xs
not_found exact x [] e = All-nil (λ y. x ≡ y → ⊥)
not_found {same = same} exact x (y ∷ ys) e =
    let parts = or_parts (same x y) (list_any (same x) ys) e in
    All-cons (λ z. x ≡ z → ⊥) y ys
    (λ f. both_ways (same x y) parts.0 (subst (λ (z : _). same x z ≡ true) f (exact.itself x)))
    (not_found exact x ys parts.1)

apart_if : {A : Type 0} {same : A → A → Bool} → IsExact same → (b : Bool) (xs : List A) (x : A) → list_any (same x) xs ≡ b → AreApart xs
    → AreApart (if b then xs else xs ++ x ∷ [])
apart_if exact true xs x e apart = apart
apart_if exact false xs x e apart = apart_push xs x apart (not_found exact x xs e)

pub apart_new : {A : Type 0} {same : A → A → Bool} → IsExact same → (xs : List A) (x : A) → AreApart xs → AreApart (with_new same xs x)
apart_new {same = same} exact xs x apart = apart_if exact (list_any (same x) xs) xs x refl apart

-- things are apart, and so is what they stand for, where this tells them apart
module _ {A B : Type 0} (f : A → B) (P : A → Type 0) (tells : (x y : A) → P x → P y → f x ≡ f y → x ≡ y) where
  none_mapped : (x : A) (xs : List A) → P x → All P xs → IsNoneOf x xs → IsNoneOf (f x) (map f xs)
  none_mapped x [] here all none = All-nil (λ y. f x ≡ y → ⊥)
  none_mapped x (y ∷ ys) here all none =
      All-cons (λ z. f x ≡ z → ⊥) (f y) (map f ys)
      (λ e. All-head (λ z. x ≡ z → ⊥) y ys none (tells x y here (All-head P y ys all) e))
      (none_mapped x ys here (All-tail P y ys all) (All-tail (λ z. x ≡ z → ⊥) y ys none))

  pub apart_mapped : (xs : List A) → All P xs → AreApart xs → AreApart (map f xs)
  apart_mapped [] all apart = tt
  apart_mapped (x ∷ xs) all apart =
      (none_mapped x xs (All-head P x xs all) (All-tail P x xs all) apart.0, apart_mapped xs (All-tail P x xs all) apart.1)

-- such a list is as long in order
module _ {A : Type 0} {cmp : A → A → Ordering} (o : IsExactOrder cmp) where
  length_placed : (x : A) (ys : List A) → IsNoneOf x ys → length (with_placed cmp x ys) ≡ suc (length ys)
  length_placed x [] none = refl
  length_placed x (y ∷ ys) none = by_order (cmp x y) refl (length_placed x ys (All-tail (λ z. x ≡ z → ⊥) y ys none))
    where
      by_order : (r : Ordering) → cmp x y ≡ r → length (with_placed cmp x ys) ≡ suc (length ys) → length (with_placed cmp x (y ∷ ys)) ≡ suc (suc (length ys))
      by_order Less e more = rw e refl
      by_order Equal e more = absurd (All-head (λ z. x ≡ z → ⊥) y ys none (o.same x y e))
      by_order Greater e more = rw e (ap (λ (n : ℕ). suc n) more)

  pub length_sorted : (xs : List A) → AreApart xs → length (sorted cmp xs) ≡ length xs
  length_sorted [] apart = refl
  length_sorted (x ∷ xs) apart =
      length_placed x (sorted cmp xs) (all_sorted cmp (λ y. x ≡ y → ⊥) xs apart.0) ∙ ap (λ (n : ℕ). suc n) (length_sorted xs apart.1)
