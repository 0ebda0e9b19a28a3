-- What is left of a pattern behind an element is what fits behind it. So what is left behind a whole list says whether the list
-- fits, and whether it begins a list that does.
use Rattle.std.proofs.Common.{◌≡◌, Bool, true, false, ◌⊎◌, inl, inr, List, [], ◌∷◌, ◌++◌, Option, Some, None, refl, sym, ap, subst, ◌∙◌, append_assoc}
use Rattle.std.specs.Prelude.{if◌then◌else◌}
use Rattle.std.proofs.lemmas.Bool.{and_parts, or_cases, or_left, or_right}
use Rattle.pi_asmtext.specs.Patterns.{Pattern, Empty, One, Then, Either, Many, Parts, none, more, Fits, Begins}
use Rattle.pi_asmtext.specs.Derivatives.{sequence, then_left, either_left, may_end, derivative, derivative_by, ends, fits}

no_parts : {A : Type 0} (xs ys : List A) → [] ≡ xs ++ ys → ([] ≡ xs) × ([] ≡ ys)
no_parts [] ys e = (refl, e)
no_parts (x ∷ xs) ys e = absurd (cc)

cons_parts : {A : Type 0} (x y : A) (xs ys : List A) → x ∷ xs ≡ y ∷ ys → (x ≡ y) × (xs ≡ ys)
cons_parts x y xs ys e = (cc, cc)

module _ {C A : Type 0} (of : C → A → Type 0) where
  -- what is left fits
  abbrev pub FitsLeft : Option (Pattern C) → List A → Type 0
  FitsLeft None xs = ⊥
  FitsLeft (Some p) xs = Fits of p xs

  from_sequence : (p q : Pattern C) (xs : List A) → Fits of (sequence p q) xs → Fits of (Then p q) xs
  from_sequence Empty q xs h = ([], xs, refl, refl, h)
  from_sequence (Then p r) q xs h = by h (from_sequence r q h.1 h.4)
    where
      by : (h : Fits of (Then p (sequence r q)) xs) → Fits of (Then r q) h.1 → Fits of (Then (Then p r) q) xs
      by h i = (h.0 ++ i.0, i.1, h.2 ∙ ap (λ (zs : List A). h.0 ++ zs) i.2 ∙ sym (append_assoc h.0 i.0 i.1), (h.0, i.0, refl, h.3, i.3), i.4)
  from_sequence _ q xs h = h

  to_sequence : (p q : Pattern C) (xs : List A) → Fits of (Then p q) xs → Fits of (sequence p q) xs
  to_sequence Empty q xs h = subst (λ (ys : List A). Fits of q ys) (sym (h.2 ∙ ap (λ (zs : List A). zs ++ h.1) h.3)) h.4
  to_sequence (Then p r) q xs h =
      (h.3.0, h.3.1 ++ h.1, h.2 ∙ ap (λ (zs : List A). zs ++ h.1) h.3.2 ∙ append_assoc h.3.0 h.3.1 h.1, h.3.3, to_sequence r q (h.3.1 ++ h.1) (h.3.1, h.1, refl, h.3.4, h.4))
  to_sequence _ q xs h = h

  -- the two ways out of a choice, and into it
  either_out : (a b : Option (Pattern C)) (xs : List A) → FitsLeft (either_left a b) xs → FitsLeft a xs ⊎ FitsLeft b xs
  either_out None b xs h = inr h
  either_out (Some p) None xs h = inl h
  either_out (Some p) (Some q) xs h = h

  either_in : (a b : Option (Pattern C)) (xs : List A) → FitsLeft a xs ⊎ FitsLeft b xs → FitsLeft (either_left a b) xs
  either_in None b xs (inl h) = absurd h
  either_in None b xs (inr h) = h
  either_in (Some p) None xs (inl h) = h
  either_in (Some p) None xs (inr h) = absurd h
  either_in (Some p) (Some q) xs h = h

  end_fits : (p : Pattern C) → may_end p ≡ true → Fits of p []
  end_fits Empty h = refl
  end_fits (One c) h = absurd (cc)
  end_fits (Then p q) h = let b = and_parts (may_end p) (may_end q) h in ([], [], refl, end_fits p b.0, end_fits q b.1)
  end_fits (Either p q) h = elim (or_cases (may_end p) (may_end q) h) [ inl a ↦ inl (end_fits p a) | inr b ↦ inr (end_fits q b) ]
  end_fits (Many p) h = none

  fits_end : (p : Pattern C) → Fits of p [] → may_end p ≡ true
  fits_end Empty h = refl
  fits_end (One c) h = absurd (let e = h.1 in cc)
  fits_end (Then p q) h =
      let n = no_parts h.0 h.1 h.2 in
      let a = fits_end p (subst (λ (ys : List A). Fits of p ys) (sym n.0) h.3) in
      let b = fits_end q (subst (λ (ys : List A). Fits of q ys) (sym n.1) h.4) in
      rw (a, b) refl
  fits_end (Either p q) (inl h) = or_left (may_end p) (may_end q) (fits_end p h)
  fits_end (Either p q) (inr h) = or_right (may_end p) (may_end q) (fits_end q h)
  fits_end (Many p) h = refl

  -- a list that fits what is left of one pattern and then another
  then_back : (x : A) (p q : Pattern C) (l : Option (Pattern C)) (xs : List A) → ((ys : List A) → FitsLeft l ys → Fits of p (x ∷ ys))
      → FitsLeft (then_left l q) xs → Fits of (Then p q) (x ∷ xs)
  then_back x p q None xs back h = absurd h
  then_back x p q (Some r) xs back h = let i = from_sequence r q xs h in (x ∷ i.0, i.1, ap (λ (zs : List A). x ∷ zs) i.2, back i.0 i.3, i.4)

  then_on : (q : Pattern C) (l : Option (Pattern C)) (xs front rest : List A) → xs ≡ front ++ rest → FitsLeft l front → Fits of q rest
      → FitsLeft (then_left l q) xs
  then_on q None xs front rest e h i = absurd h
  then_on q (Some r) xs front rest e h i = to_sequence r q xs (front, rest, e, h, i)

  -- behind the first element of a first part
  front_on : (p q : Pattern C) (l : Option (Pattern C)) (x : A) (xs front rest : List A) → x ∷ xs ≡ front ++ rest
      → ((ys : List A) → Fits of p (x ∷ ys) → FitsLeft l ys) → Fits of p front → Fits of q rest
      → (FitsLeft (then_left l q) xs) ⊎ ((front ≡ []) × (x ∷ xs ≡ rest))
  front_on p q l x xs [] rest e on h i = inr (refl, e)
  front_on p q l x xs (y ∷ ys) rest e on h i =
      let same = cons_parts x y xs (ys ++ rest) e in
      inl (then_on q l xs ys rest same.1 (on ys (subst (λ (z : A). Fits of p (z ∷ ys)) (sym same.0) h)) i)

  -- what fits what is left, fits behind the element
  module _ (test : C → A → Bool) (right : (c : C) (x : A) → test c x ≡ true → of c x) where
    one_back : (c : C) (x : A) (xs : List A) (t : Bool) → (t ≡ true → of c x) → FitsLeft (if t then Some Empty else None) xs
        → Fits of (One c) (x ∷ xs)
    one_back c x xs true is h = (x, ap (λ (zs : List A). x ∷ zs) h, is refl)
    one_back c x xs false is h = absurd h

    both_back : (x : A) (p q : Pattern C) (l m : Option (Pattern C)) (xs : List A) (t : Bool) → may_end p ≡ t
        → ((ys : List A) → FitsLeft l ys → Fits of p (x ∷ ys)) → (FitsLeft m xs → Fits of q (x ∷ xs))
        → FitsLeft (if t then either_left (then_left l q) m else then_left l q) xs → Fits of (Then p q) (x ∷ xs)
    both_back x p q l m xs true e first second h =
        elim (either_out (then_left l q) m xs h) [ inl a ↦ then_back x p q l xs first a | inr b ↦ ([], x ∷ xs, refl, end_fits p e, second b) ]
    both_back x p q l m xs false e first second h = then_back x p q l xs first h

    back : (x : A) (p : Pattern C) (xs : List A) → FitsLeft (derivative test x p) xs → Fits of p (x ∷ xs)
    back x Empty xs h = absurd h
    back x (One c) xs h = one_back c x xs (test c x) (right c x) h
    back x (Then p q) xs h = both_back x p q (derivative test x p) (derivative test x q) xs (may_end p) refl (back x p) (back x q xs) h
    back x (Either p q) xs h = elim (either_out (derivative test x p) (derivative test x q) xs h) [ inl a ↦ inl (back x p xs a) | inr b ↦ inr (back x q xs b) ]
    back x (Many p) xs h =
        let b = then_back x p (Many p) (derivative test x p) xs (back x p) h in
        subst (λ (ys : List A). Fits of (Many p) ys) (sym b.2) (more b.0 b.1 b.3 b.4)

    run_fits : (o : Option (Pattern C)) (xs : List A) → ends (derivative_by test xs o) ≡ true → FitsLeft o xs
    run_fits None xs h = absurd (cc)
    run_fits (Some p) [] h = end_fits p h
    run_fits (Some p) (x ∷ xs) h = back x p xs (run_fits (derivative test x p) xs h)

    -- the test says that the list fits
    pub test_fits : (p : Pattern C) (xs : List A) → fits test p xs ≡ true → Fits of p xs
    test_fits p xs h = run_fits (Some p) xs h

    -- a list that fits what is left behind another fits behind it
    behind_fits : (o : Option (Pattern C)) (xs ys : List A) → FitsLeft (derivative_by test xs o) ys → FitsLeft o (xs ++ ys)
    behind_fits None xs ys h = absurd h
    behind_fits (Some p) [] ys h = h
    behind_fits (Some p) (x ∷ xs) ys h = back x p (xs ++ ys) (behind_fits (derivative test x p) xs ys h)

  -- what fits behind the element, fits what is left
  module _ (test : C → A → Bool) (right : (c : C) (x : A) → of c x → test c x ≡ true) where
    one_on : (c : C) (x : A) (xs : List A) → Fits of (One c) (x ∷ xs) → FitsLeft (derivative test x (One c)) xs
    one_on c x xs h =
        let same = cons_parts x h.0 xs [] h.1 in rw (right c x (subst (λ (y : A). of c y) (sym same.0) h.2)) same.1

    then_turn : (p q : Pattern C) (l m : Option (Pattern C)) (x : A) (xs : List A) (t : Bool) → may_end p ≡ t
        → ((ys : List A) → Fits of p (x ∷ ys) → FitsLeft l ys) → (Fits of q (x ∷ xs) → FitsLeft m xs)
        → Fits of (Then p q) (x ∷ xs) → FitsLeft (if t then either_left (then_left l q) m else then_left l q) xs
    then_turn p q l m x xs true e on on2 h =
        elim (front_on p q l x xs h.0 h.1 h.2 on h.3 h.4) [
          | inl a ↦ either_in (then_left l q) m xs (inl a)
          | inr b ↦ either_in (then_left l q) m xs (inr (on2 (subst (λ (ys : List A). Fits of q ys) (sym b.1) h.4)))
        ]
    then_turn p q l m x xs false e on on2 h =
        elim (front_on p q l x xs h.0 h.1 h.2 on h.3 h.4)
        [ inl a ↦ a | inr b ↦ absurd (let t = fits_end p (subst (λ (ys : List A). Fits of p ys) b.0 h.3) in cc) ]

    many_turn : (p : Pattern C) (l : Option (Pattern C)) (x : A) (xs zs : List A) → ((ys : List A) → Fits of p (x ∷ ys) → FitsLeft l ys)
        → Parts (Fits of p) zs → x ∷ xs ≡ zs → FitsLeft (then_left l (Many p)) xs
    many_turn p l x xs zs on none e = absurd (cc)
    many_turn p l x xs zs on (more front rest h i) e = by (front_on p (Many p) l x xs front rest e on h i) (many_turn p l x xs rest on i)
      where
        by : (FitsLeft (then_left l (Many p)) xs) ⊎ ((front ≡ []) × (x ∷ xs ≡ rest)) → (x ∷ xs ≡ rest → FitsLeft (then_left l (Many p)) xs)
            → FitsLeft (then_left l (Many p)) xs
        by (inl a) again = a
        by (inr b) again = again b.1

    onward : (x : A) (p : Pattern C) (xs : List A) → Fits of p (x ∷ xs) → FitsLeft (derivative test x p) xs
    onward x Empty xs h = absurd (cc)
    onward x (One c) xs h = one_on c x xs h
    onward x (Then p q) xs h = then_turn p q (derivative test x p) (derivative test x q) x xs (may_end p) refl (onward x p) (onward x q xs) h
    onward x (Either p q) xs (inl h) = either_in (derivative test x p) (derivative test x q) xs (inl (onward x p xs h))
    onward x (Either p q) xs (inr h) = either_in (derivative test x p) (derivative test x q) xs (inr (onward x q xs h))
    onward x (Many p) xs h = many_turn p (derivative test x p) x xs (x ∷ xs) (onward x p) h refl

    fits_run : (o : Option (Pattern C)) (xs : List A) → FitsLeft o xs → ends (derivative_by test xs o) ≡ true
    fits_run None xs h = absurd h
    fits_run (Some p) [] h = fits_end p h
    fits_run (Some p) (x ∷ xs) h = fits_run (derivative test x p) xs (onward x p xs h)

    pub fits_test : (p : Pattern C) (xs : List A) → Fits of p xs → fits test p xs ≡ true
    fits_test p xs h = fits_run (Some p) xs h

    fits_behind : (o : Option (Pattern C)) (xs ys : List A) → FitsLeft o (xs ++ ys) → FitsLeft (derivative_by test xs o) ys
    fits_behind None xs ys h = absurd h
    fits_behind (Some p) [] ys h = h
    fits_behind (Some p) (x ∷ xs) ys h = fits_behind (derivative test x p) xs ys (onward x p (xs ++ ys) h)

    -- where nothing is left, the list begins none that fits
    pub none_begins : (p : Pattern C) (xs : List A) → derivative_by test xs (Some p) ≡ None → Begins of p xs → ⊥
    none_begins p xs e h = subst (λ (o : Option (Pattern C)). FitsLeft o h.0) e (fits_behind (Some p) xs h.0 h.1)

  -- where each class has an element, some list fits each pattern
  module _ (samples : (c : C) → (x : A) × of c x) where
    pub lives : (p : Pattern C) → (xs : List A) × Fits of p xs
    lives Empty = ([], refl)
    lives (One c) = let s = samples c in (s.0 ∷ [], (s.0, refl, s.1))
    lives (Then p q) = let a = lives p in let b = lives q in (a.0 ++ b.0, (a.0, b.0, refl, a.1, b.1))
    lives (Either p q) = let a = lives p in (a.0, inl a.1)
    lives (Many p) = ([], none)

    -- where something is left, the list begins one that fits
    pub some_begins : (test : C → A → Bool) → ((c : C) (x : A) → test c x ≡ true → of c x) → (p q : Pattern C) (xs : List A)
        → derivative_by test xs (Some p) ≡ Some q → Begins of p xs
    some_begins test right p q xs e =
        let s = lives q in (s.0, behind_fits test right (Some p) xs s.0 (subst (λ (o : Option (Pattern C)). FitsLeft o s.0) (sym e) s.1))
