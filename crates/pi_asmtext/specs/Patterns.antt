-- Patterns of lists: what fits a pattern, and what begins something that does.
use Rattle.std.specs.Prelude.{◌≡◌, ◌⊎◌, List, [], ◌∷◌, ◌++◌}

-- a pattern over classes of elements
pub data Pattern (C : Type 0) : Type 0 where
  Empty : Pattern C
  One : C → Pattern C
  Then : Pattern C → Pattern C → Pattern C
  Either : Pattern C → Pattern C → Pattern C
  Many : Pattern C → Pattern C

-- patterns one after the other
abbrev pub chain : {C : Type 0} → List (Pattern C) → Pattern C
chain [] = Empty
chain (p ∷ ps) = Then p (chain ps)

-- one or more
abbrev pub some : {C : Type 0} → Pattern C → Pattern C
some p = chain (p ∷ Many p ∷ [])

-- any of some patterns, of which there is at least one
abbrev pub any_of : {C : Type 0} → List (Pattern C) → Pattern C
any_of [] = Empty
any_of (p ∷ []) = p
any_of (p ∷ q ∷ ps) = Either p (any_of (q ∷ ps))

-- a list is these parts one after the other, and each is as is said
pub data Parts {A : Type 0} (is : List A → Type 0) : List A → Type 0 where
  none : Parts is []
  more : (part others : List A) → is part → Parts is others → Parts is (part ++ others)

-- A list fits a pattern, where it is said which elements are of a class: nothing, one element of a class, one pattern and
-- then another, either of two, any number of one.
abbrev pub Fits : {C A : Type 0} → (C → A → Type 0) → Pattern C → List A → Type 0
Fits of Empty xs = xs ≡ []
Fits {A = A} of (One c) xs = (x : A) × (xs ≡ x ∷ []) × of c x
Fits {A = A} of (Then p q) xs = (front : List A) × (rest : List A) × (xs ≡ front ++ rest) × Fits of p front × Fits of q rest
Fits of (Either p q) xs = Fits of p xs ⊎ Fits of q xs
Fits of (Many p) xs = Parts (Fits of p) xs

-- a list begins one that fits
abbrev pub Begins : {C A : Type 0} → (C → A → Type 0) → Pattern C → List A → Type 0
Begins {A = A} of p xs = (more : List A) × Fits of p (xs ++ more)
