-- What stands in a list that is arranged, and that it is the one list in order in which equal things stand as they did.
use Rattle.std.proofs.Common.{◌≡◌, zero, suc, ◌+◌, not, cond, Bool, true, false, List, [], ◌∷◌, filter, get_or, Ordering, Less, Equal, Greater, refl, sym, ap, ◌∙◌, subst, arith}
use Rattle.std.specs.Cmp.{IsTotalOrder, IsStrictWeakOrder}
use Rattle.std.specs.List.{All}
use Rattle.std.specs.List.Sorted.{IsSortedBy, IsSorted, IsStable, ties}
use Rattle.std.specs.Ordering.{is_lt, ordering_reverse}
use Rattle.std.proofs.lemmas.Bool.{and_parts, and_from, not-true, not_from_false}
use Rattle.std.proofs.lemmas.Cmp.{tied_itself}
use Rattle.std.proofs.lemmas.List.Elements.{All-nil, All-cons, All-head, All-tail, All-filter}
use Rattle.std.proofs.lemmas.List.Sorted.{ranks_by, sorted_far}
use Rattle.pi_classtables.specs.Sorted.{with_first, arranged}

module _ {A : Type 0} (cmp : A → A → Ordering) where
  -- a thing stands before the first that is not below it
  stands_before : (x y : A) (ys : List A) → cmp x y ≡ Less → with_first cmp x (y ∷ ys) ≡ x ∷ y ∷ ys
  stands_before x y ys e = rw e refl

  stands_at : (x y : A) (ys : List A) → cmp x y ≡ Equal → with_first cmp x (y ∷ ys) ≡ x ∷ y ∷ ys
  stands_at x y ys e = rw e refl

  stands_behind : (x y : A) (ys : List A) → cmp x y ≡ Greater → with_first cmp x (y ∷ ys) ≡ y ∷ with_first cmp x ys
  stands_behind x y ys e = rw e refl

  -- what holds of each thing of a list holds of each of the list arranged, and back
  module _ (P : A → Type 0) where
    all_with_first : (x : A) (ys : List A) → P x → All P ys → All P (with_first cmp x ys)
    all_with_first x [] here rest = All-cons P x [] here rest
    all_with_first x (y ∷ ys) here rest = by_order (cmp x y) refl (all_with_first x ys here (All-tail P y ys rest))
      where
        by_order : (o : Ordering) → cmp x y ≡ o → All P (with_first cmp x ys) → All P (with_first cmp x (y ∷ ys))
        by_order Less e more = rw (stands_before x y ys e) (All-cons P x (y ∷ ys) here rest)
        by_order Equal e more = rw (stands_at x y ys e) (All-cons P x (y ∷ ys) here rest)
        by_order Greater e more = rw (stands_behind x y ys e) (All-cons P y (with_first cmp x ys) (All-head P y ys rest) more)

    pub all_arranged : (xs : List A) → All P xs → All P (arranged cmp xs)
    all_arranged [] all = all
    all_arranged (x ∷ xs) all = all_with_first x (arranged cmp xs) (All-head P x xs all) (all_arranged xs (All-tail P x xs all))

    first_and_others : (x : A) (ys : List A) → All P (with_first cmp x ys) → P x × All P ys
    first_and_others x [] all = (All-head P x [] all, All-nil P)
    first_and_others x (y ∷ ys) all = by_order (cmp x y) refl (λ more. first_and_others x ys more)
      where
        in_front : All P (x ∷ y ∷ ys) → P x × All P (y ∷ ys)
        in_front whole = (All-head P x (y ∷ ys) whole, All-tail P x (y ∷ ys) whole)

        by_order : (o : Ordering) → cmp x y ≡ o → (All P (with_first cmp x ys) → P x × All P ys) → P x × All P (y ∷ ys)
        by_order Less e more = in_front (subst (All P) (stands_before x y ys e) all)
        by_order Equal e more = in_front (subst (All P) (stands_at x y ys e) all)
        by_order Greater e more =
            let whole = subst (All P) (stands_behind x y ys e) all in
            let parts = more (All-tail P y (with_first cmp x ys) whole) in
            (parts.0, All-cons P y ys (All-head P y (with_first cmp x ys) whole) parts.1)

    pub all_from_arranged : (xs : List A) → All P (arranged cmp xs) → All P xs
    all_from_arranged [] all = all
    all_from_arranged (x ∷ xs) all =
        let parts = first_and_others x (arranged cmp xs) all in
        All-cons P x xs parts.0 (all_from_arranged xs parts.1)

-- a list is in order where no other thing is below the first, and the others are in order
in_order_cons : {A : Type 0} (lt : A → A → Bool) (x : A) (xs : List A) → All (λ z. lt z x ≡ false) xs → IsSortedBy lt xs → IsSortedBy lt (x ∷ xs)
in_order_cons lt x xs first rest zero d le within = first 0 d (omega arith)
in_order_cons lt x xs first rest (suc k) d le within =
    let place : suc k + 1 ≡ suc (k + 1) = omega arith in
    rw place (rest k d (omega arith) (omega arith))

in_order_rest : {A : Type 0} (lt : A → A → Bool) (x : A) (xs : List A) → IsSortedBy lt (x ∷ xs) → IsSortedBy lt xs
in_order_rest lt x xs up k d le within =
    let place : suc k + 1 ≡ suc (k + 1) = omega arith in
    let here = up (suc k) d (omega arith) (omega arith) in
    rw place at here

-- things stay as they stood among those that pass a test, if no two of these are apart
kept_first : {A : Type 0} (t : A → Bool) (x y : A) (ys zs : List A) (a b : Bool) → t x ≡ a → t y ≡ b → (a ≡ true → b ≡ true → ⊥)
    → filter t zs ≡ filter t (x ∷ ys) → filter t (y ∷ zs) ≡ filter t (x ∷ y ∷ ys)
kept_first t x y ys zs true true e f apart more = absurd (apart refl refl)
kept_first t x y ys zs true false e f apart more = (let rest : filter t zs ≡ x ∷ filter t ys = rw e at more in rw (e, f) rest)
kept_first t x y ys zs false true e f apart more = (let rest : filter t zs ≡ filter t ys = rw e at more in rw (e, f, rest) refl)
kept_first t x y ys zs false false e f apart more = (let rest : filter t zs ≡ filter t ys = rw e at more in rw (e, f) rest)

kept_others : {A : Type 0} (b : Bool) (y : A) (ys zs : List A) → cond b (y ∷ ys) ys ≡ cond b (y ∷ zs) zs → ys ≡ zs
kept_others true y ys zs e = cc
kept_others false y ys zs e = e

module _ {A : Type 0} {cmp : A → A → Ordering} (o : IsTotalOrder cmp) where
  abbrev below : A → A → Bool
  below x y = is_lt (cmp x y)

  ranks : IsStrictWeakOrder below
  ranks = ranks_by o (λ (x : A). x)

  not_below : (x y : A) (r : Ordering) → cmp x y ≡ r → (r ≡ Greater → ⊥) → below y x ≡ false
  not_below x y Less e other = rw (o.antisymm y x, e) refl
  not_below x y Equal e other = rw (o.antisymm y x, e) refl
  not_below x y Greater e other = absurd (other refl)

  others_not_below : (y : A) (ys : List A) → IsSorted cmp (y ∷ ys) → All (λ z. below z y ≡ false) ys
  others_not_below y ys up k d lt = sorted_far below ranks (y ∷ ys) up zero (suc k) d (omega arith) (omega (arith, lt))

  -- a list that is arranged is in order
  in_order_first : (x : A) (ys : List A) → IsSorted cmp ys → IsSorted cmp (with_first cmp x ys)
  in_order_first x [] up = in_order_cons below x [] (All-nil (λ z. below z x ≡ false)) up
  in_order_first x (y ∷ ys) up = by_order (cmp x y) refl (in_order_first x ys (in_order_rest below y ys up))
    where
      in_front : below y x ≡ false → IsSorted cmp (x ∷ y ∷ ys)
      in_front here =
          in_order_cons below x (y ∷ ys)
          (All-cons (λ z. below z x ≡ false) y ys here (λ k d lt. ranks.chain (get_or ys k d) y x (others_not_below y ys up k d lt) here)) up

      by_order : (r : Ordering) → cmp x y ≡ r → IsSorted cmp (with_first cmp x ys) → IsSorted cmp (with_first cmp x (y ∷ ys))
      by_order Less e more = rw (stands_before cmp x y ys e) (in_front (not_below x y Less e (λ no. cc)))
      by_order Equal e more = rw (stands_at cmp x y ys e) (in_front (not_below x y Equal e (λ no. cc)))
      by_order Greater e more =
          let here : below x y ≡ false = ap is_lt e in
          rw (stands_behind cmp x y ys e)
          (in_order_cons below y (with_first cmp x ys) (all_with_first cmp (λ z. below z y ≡ false) x ys here (others_not_below y ys up)) more)

  pub arranged_in_order : (xs : List A) → IsSorted cmp (arranged cmp xs)
  arranged_in_order [] = λ k d le within. absurd (omega arith)
  arranged_in_order (x ∷ xs) = in_order_first x (arranged cmp xs) (arranged_in_order xs)

  -- what is level with a third thing is level
  tied_equal : (x y : A) → ties below x y ≡ true → cmp x y ≡ Equal
  tied_equal x y h = by_order (cmp x y) refl (and_parts (not (below x y)) (not (below y x)) h)
    where
      by_order : (r : Ordering) → cmp x y ≡ r → (not (below x y) ≡ true) × (not (below y x) ≡ true) → cmp x y ≡ Equal
      by_order Less e parts = (let no : true ≡ false = sym (ap is_lt e) ∙ not-true (below x y) parts.0 in cc)
      by_order Equal e parts = e
      by_order Greater e parts =
          let less : cmp y x ≡ Less = o.antisymm y x ∙ ap ordering_reverse e in
          let no : true ≡ false = sym (ap is_lt less) ∙ not-true (below y x) parts.1 in
          cc

  not_apart : (w x y : A) → cmp x y ≡ Greater → ties below w x ≡ true → ties below w y ≡ true → ⊥
  not_apart w x y e f g =
      let level : cmp w y ≡ cmp x y = o.congr w x y (tied_equal w x f) in
      let tied : cmp w y ≡ Equal = tied_equal w y g in
      cc

  -- and level things stand in it as they stood
  stable_first : (w x : A) (ys : List A) → filter (ties below w) (with_first cmp x ys) ≡ filter (ties below w) (x ∷ ys)
  stable_first w x [] = refl
  stable_first w x (y ∷ ys) = by_order (cmp x y) refl (stable_first w x ys)
    where
      by_order : (r : Ordering) → cmp x y ≡ r → filter (ties below w) (with_first cmp x ys) ≡ filter (ties below w) (x ∷ ys)
          → filter (ties below w) (with_first cmp x (y ∷ ys)) ≡ filter (ties below w) (x ∷ y ∷ ys)
      by_order Less e more = ap (filter (ties below w)) (stands_before cmp x y ys e)
      by_order Equal e more = ap (filter (ties below w)) (stands_at cmp x y ys e)
      by_order Greater e more =
          ap (filter (ties below w)) (stands_behind cmp x y ys e)
          ∙ kept_first (ties below w) x y ys (with_first cmp x ys) (ties below w x) (ties below w y) refl refl (not_apart w x y e) more

  pub arranged_stable : (xs : List A) → IsStable cmp xs (arranged cmp xs)
  arranged_stable [] w = refl
  arranged_stable (x ∷ xs) w =
      stable_first w x (arranged cmp xs) ∙ ap (λ (zs : List A). cond (ties below w x) (x ∷ zs) zs) (arranged_stable xs w)

  -- two lists in order in which level things stand alike are one
  tied_self : (x : A) → ties below x x ≡ true
  tied_self x = rw (tied_itself o x) refl

  first_not_below : (y z : A) (ys zs : List A) → IsSorted cmp (z ∷ zs) → filter (ties below y) (y ∷ ys) ≡ filter (ties below y) (z ∷ zs) → below y z ≡ false
  first_not_below y z ys zs up e =
      let own : below z z ≡ false = ap is_lt (tied_itself o z) in
      let all = All-filter (ties below y) (λ v. below v z ≡ false) (z ∷ zs) (All-cons (λ v. below v z ≡ false) z zs own (others_not_below z zs up)) in
      let same : y ∷ filter (ties below y) ys ≡ filter (ties below y) (z ∷ zs) = rw (tied_self y) at e in
      All-head (λ v. below v z ≡ false) y (filter (ties below y) ys) (subst (All (λ v. below v z ≡ false)) (sym same) all)

  firsts_same : (y z : A) (ys zs : List A) → ties below y z ≡ true → filter (ties below y) (y ∷ ys) ≡ filter (ties below y) (z ∷ zs) → y ≡ z
  firsts_same y z ys zs tied e =
      let same : y ∷ filter (ties below y) ys ≡ z ∷ filter (ties below y) zs = rw (tied_self y, tied) at e in
      cc

  others_alike : (y z : A) (ys zs : List A) → y ≡ z → (w : A) → filter (ties below w) (y ∷ ys) ≡ filter (ties below w) (z ∷ zs)
      → filter (ties below w) ys ≡ filter (ties below w) zs
  others_alike y z ys zs same w e =
      let alike : filter (ties below w) (y ∷ ys) ≡ filter (ties below w) (y ∷ zs) = rw (← same) at e in
      kept_others (ties below w y) y (filter (ties below w) ys) (filter (ties below w) zs) alike

  in_order_same : (ys zs : List A) → IsSorted cmp ys → IsSorted cmp zs → ((w : A) → filter (ties below w) ys ≡ filter (ties below w) zs) → ys ≡ zs
  in_order_same [] [] up high alike = refl
  in_order_same [] (z ∷ zs) up high alike =
      let no : [] ≡ z ∷ filter (ties below z) zs = rw (tied_self z) at (alike z) in
      cc
  in_order_same (y ∷ ys) [] up high alike =
      let no : y ∷ filter (ties below y) ys ≡ [] = rw (tied_self y) at (alike y) in
      cc
  in_order_same (y ∷ ys) (z ∷ zs) up high alike =
      let one = first_not_below y z ys zs high (alike y) in
      let other = first_not_below z y zs ys up (sym (alike z)) in
      let tied : ties below y z ≡ true = and_from (not (below y z)) (not (below z y)) (not_from_false (below y z) one) (not_from_false (below z y) other) in
      let same = firsts_same y z ys zs tied (alike y) in
      let rest = in_order_same ys zs (in_order_rest below y ys up) (in_order_rest below z zs high) (λ w. others_alike y z ys zs same w (alike w)) in
      cc

  -- so a stable sort gives the list arranged
  pub arranged_is : (xs ys : List A) → IsSorted cmp ys → IsStable cmp xs ys → ys ≡ arranged cmp xs
  arranged_is xs ys up stable = in_order_same ys (arranged cmp xs) up (arranged_in_order xs) (λ w. stable w ∙ sym (arranged_stable xs w))
