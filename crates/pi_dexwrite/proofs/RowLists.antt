-- What a function gives for each thing of a list, as far as a loop has come.
use Rattle.std.specs.Prelude.{◌≡◌, ℕ, zero, suc, ◌+◌, ◌<◌, List, [], ◌∷◌, ◌++◌, length, map, take, Option, Some, None, slice_index_or, refl}
use Rattle.std.proofs.Common.{◌∙◌, ap, arith}
use Rattle.std.proofs.lemmas.List.{get_or-map, length-map, map-append, take_more}
use Rattle.pi_insn.specs.Chain.{◌>>=◌}
use Rattle.pi_classtables.specs.Whole.{for_each}

nothing : {B C : Type 0} (o : Option B) (n : Option C) → n ≡ None → o >>= (λ y. n) ≡ None
nothing None n none = refl
nothing (Some y) n none = none

regroup : {B : Type 0} (o : Option B) (p q : Option (List B))
    → o >>= (λ y. (p >>= (λ ys. q >>= (λ ws. Some (ys ++ ws)))) >>= (λ ys. Some (y ∷ ys)))
    ≡ (o >>= (λ y. p >>= (λ ys. Some (y ∷ ys)))) >>= (λ ys. q >>= (λ ws. Some (ys ++ ws)))
regroup None p q = refl
regroup (Some y) None q = refl
regroup (Some y) (Some ys) None = refl
regroup (Some y) (Some ys) (Some ws) = refl

alone : {B : Type 0} (q : Option (List B)) → q ≡ q >>= (λ ws. Some ([] ++ ws))
alone None = refl
alone (Some ws) = refl

module _ {A B : Type 0} (f : A → Option B) where
  for_each-append : (xs zs : List A) → for_each f (xs ++ zs) ≡ for_each f xs >>= (λ ys. for_each f zs >>= (λ ws. Some (ys ++ ws)))
  for_each-append [] zs = alone (for_each f zs)
  for_each-append (x ∷ xs) zs =
      ap (λ (r : Option (List B)). f x >>= (λ y. r >>= (λ ys. Some (y ∷ ys)))) (for_each-append xs zs)
      ∙ regroup (f x) (for_each f xs) (for_each f zs)

  for_each_push : (xs : List A) (ys : List B) (x : A) (y : B) → for_each f xs ≡ Some ys → f x ≡ Some y → for_each f (xs ++ x ∷ []) ≡ Some (ys ++ y ∷ [])
  for_each_push xs ys x y given here =
      for_each-append xs (x ∷ [])
      ∙ ap (λ (r : Option (List B)). r >>= (λ rs. for_each f (x ∷ []) >>= (λ ws. Some (rs ++ ws)))) given
      ∙ ap (λ (o : Option B). (o >>= (λ z. Some (z ∷ []))) >>= (λ ws. Some (ys ++ ws))) here

  -- nothing for one thing is nothing for all
  for_each_stops : (xs : List A) (i : ℕ) (d : A) → i < length xs → f (slice_index_or xs i d) ≡ None → for_each f xs ≡ None
  for_each_stops [] i d within none = absurd (omega arith)
  for_each_stops (x ∷ xs) zero d within none = ap (λ (o : Option B). o >>= (λ y. for_each f xs >>= (λ ys. Some (y ∷ ys)))) none
  for_each_stops (x ∷ xs) (suc i) d within none =
      ap (λ (r : Option (List B)). f x >>= (λ y. r >>= (λ ys. Some (y ∷ ys)))) (for_each_stops xs i d (omega arith) none) ∙ nothing (f x) None refl

  module _ {P : Type 0} (g : P → A) where
    -- one row more, and no row
    pub rows_more : (ps : List P) (i : ℕ) (d : P) (ys : List B) (y : B) → i < length ps → for_each f (map g (take i ps)) ≡ Some ys
        → f (g (slice_index_or ps i d)) ≡ Some y → for_each f (map g (take (i + 1) ps)) ≡ Some (ys ++ y ∷ [])
    rows_more ps i d ys y within given here =
        ap (λ (qs : List P). for_each f (map g qs)) (take_more ps i d within)
        ∙ ap (for_each f) (map-append g (take i ps) (slice_index_or ps i d ∷ []))
        ∙ for_each_push (map g (take i ps)) ys (g (slice_index_or ps i d)) y given here

    pub rows_none : (ps : List P) (i : ℕ) (d : P) → i < length ps → f (g (slice_index_or ps i d)) ≡ None → for_each f (map g ps) ≡ None
    rows_none ps i d within none =
        for_each_stops (map g ps) i (g d) (omega (arith, length-map ps g)) (ap f (get_or-map g ps i d (g d) within) ∙ none)
