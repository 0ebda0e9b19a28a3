-- Things in order, of which each is kept once.
use Rattle.std.specs.Prelude.{◌≡◌, ◌-◌, ◌++◌, ◌∷◌, [], ◌⊎◌, List, Some, length, slice_get}

-- the last thing of a list is that
abbrev pub EndsWith : {A : Type 0} → List A → A → Type 0
EndsWith xs x = slice_get xs (length xs - 1) ≡ Some x

-- a list with one thing more, and as it was where it ends with that
abbrev pub IsKept : {A : Type 0} → List A → A → List A → Type 0
IsKept old x new = (EndsWith old x × (new ≡ old)) ⊎ ((EndsWith old x → ⊥) × (new ≡ old ++ x ∷ []))
