-- What is given for each thing of a list that is arranged is what is given for each of the list, arranged, if it ranks alike.
use Rattle.std.proofs.Common.{◌≡◌, List, [], ◌∷◌, Option, Some, None, Ordering, Less, Equal, Greater, option_map, refl, sym, ap, ◌∙◌}
use Rattle.std.specs.List.{All}
use Rattle.std.proofs.lemmas.List.Elements.{All-head, All-tail, All-weaker}
use Rattle.pi_insn.specs.Chain.{◌>>=◌}
use Rattle.pi_classtables.specs.Sorted.{with_first, arranged}
use Rattle.pi_classtables.specs.Whole.{for_each}
use Rattle.pi_classtables.proofs.Arranged.{all_arranged}

module _ {A B : Type 0} (f : A → Option B) (cmp : A → A → Ordering) (by : B → B → Ordering) where
  -- what is given for two things ranks as they do
  pub record RanksAlike (x y : A) : Type 0 where
    pub alike : (r s : B) → f x ≡ Some r → f y ≡ Some s → by r s ≡ cmp x y

  abbrev joined : Option B → Option (List B) → Option (List B)
  joined r rs = r >>= (λ y. rs >>= (λ ys. Some (with_first by y ys)))

  no_first : (x : A) (ys : List A) → f x ≡ None → for_each f (x ∷ ys) ≡ None
  no_first x ys e = rw e refl

  one_first : (x : A) (ys : List A) (r : B) → f x ≡ Some r → for_each f (x ∷ ys) ≡ (for_each f ys >>= (λ rs. Some (r ∷ rs)))
  one_first x ys r e = rw e refl

  -- a list is put in before what is given, or behind its first
  in_front : (x y : A) (ys : List A) (u v : Option B) (w : Option (List B)) → RanksAlike x y → (cmp x y ≡ Greater → ⊥) → f x ≡ u → f y ≡ v → for_each f ys ≡ w
      → for_each f (x ∷ y ∷ ys) ≡ joined (f x) (for_each f (y ∷ ys))
  in_front x y ys None v w alike low e g h = rw e refl
  in_front x y ys (Some r) None w alike low e g h = rw (e, g) refl
  in_front x y ys (Some r) (Some s) None alike low e g h = rw (e, g, h) refl
  in_front x y ys (Some r) (Some s) (Some ss) alike low e g h = rw (e, g, h) (by_order (by r s) refl)
    where
      by_order : (o : Ordering) → by r s ≡ o → Some (r ∷ s ∷ ss) ≡ Some (with_first by r (s ∷ ss))
      by_order Less k = rw k refl
      by_order Equal k = rw k refl
      by_order Greater k = absurd (low (sym (alike.alike r s e g) ∙ k))

  behind : (x y : A) (ys : List A) (u v : Option B) (w : Option (List B)) → RanksAlike x y → cmp x y ≡ Greater → f x ≡ u → f y ≡ v → for_each f ys ≡ w
      → (f y >>= (λ s. joined (f x) (for_each f ys) >>= (λ ss. Some (s ∷ ss)))) ≡ joined (f x) (for_each f (y ∷ ys))
  behind x y ys None None w alike high e g h = rw (e, g) refl
  behind x y ys None (Some s) w alike high e g h = rw (e, g) refl
  behind x y ys (Some r) None w alike high e g h = rw (e, g) refl
  behind x y ys (Some r) (Some s) None alike high e g h = rw (e, g, h) refl
  behind x y ys (Some r) (Some s) (Some ss) alike high e g h = (let k : by r s ≡ Greater = alike.alike r s e g ∙ high in rw (e, g, h, k) refl)

  each_with_first : (x : A) (ys : List A) → All (RanksAlike x) ys → for_each f (with_first cmp x ys) ≡ joined (f x) (for_each f ys)
  each_with_first x [] alike = refl
  each_with_first x (y ∷ ys) alike =
      by_order (cmp x y) refl (All-head (RanksAlike x) y ys alike) (each_with_first x ys (All-tail (RanksAlike x) y ys alike))
    where
      by_order : (o : Ordering) → cmp x y ≡ o → RanksAlike x y → for_each f (with_first cmp x ys) ≡ joined (f x) (for_each f ys)
          → for_each f (with_first cmp x (y ∷ ys)) ≡ joined (f x) (for_each f (y ∷ ys))
      by_order Less e here more = rw e (in_front x y ys (f x) (f y) (for_each f ys) here (λ no. cc) refl refl refl)
      by_order Equal e here more = rw e (in_front x y ys (f x) (f y) (for_each f ys) here (λ no. cc) refl refl refl)
      by_order Greater e here more =
          rw e (ap (λ (rs : Option (List B)). f y >>= (λ s. rs >>= (λ ss. Some (s ∷ ss)))) more ∙ behind x y ys (f x) (f y) (for_each f ys) here e refl refl refl)

  one_arranged : (x : A) (xs : List A) (u : Option B) (w : Option (List B)) → f x ≡ u → for_each f xs ≡ w
      → joined (f x) (option_map (arranged by) (for_each f xs)) ≡ option_map (arranged by) (for_each f (x ∷ xs))
  one_arranged x xs None w e g = rw e refl
  one_arranged x xs (Some r) None e g = rw (e, g) refl
  one_arranged x xs (Some r) (Some rs) e g = rw (e, g) refl

  pub each_arranged : (xs : List A) → All (λ x. All (RanksAlike x) xs) xs → for_each f (arranged cmp xs) ≡ option_map (arranged by) (for_each f xs)
  each_arranged [] alike = refl
  each_arranged (x ∷ xs) alike =
      let first = All-tail (RanksAlike x) x xs (All-head (λ z. All (RanksAlike z) (x ∷ xs)) x xs alike) in
      let others = All-weaker (λ z. All (RanksAlike z) (x ∷ xs)) (λ z. All (RanksAlike z) xs) (λ z all. All-tail (RanksAlike z) x xs all) xs
      (All-tail (λ z. All (RanksAlike z) (x ∷ xs)) x xs alike) in
      each_with_first x (arranged cmp xs) (all_arranged cmp (RanksAlike x) xs first)
      ∙ ap (joined (f x)) (each_arranged xs others)
      ∙ one_arranged x xs (f x) (for_each f xs) refl refl
