-- The lowest place at which one of several things breaks a rule, and lists by number.
use Rattle.std.specs.Prelude.{ℕ, zero, suc, ◌+◌, nat_le, List, [], ◌∷◌, Option, Some, None, if◌then◌else◌}

-- the lower of two places
abbrev pub lower : Option ℕ → Option ℕ → Option ℕ
lower None b = b
lower (Some a) None = Some a
lower (Some a) (Some b) = if nat_le a b then Some a else Some b

-- the lowest place of n things, from i on
abbrev pub lowest_from : (ℕ → Option ℕ) → ℕ → ℕ → Option ℕ
lowest_from place i zero = None
lowest_from place i (suc n) = lower (place i) (lowest_from place (i + 1) n)

-- the lowest place of the things of a list
abbrev pub lowest_of : {A : Type 0} → (A → Option ℕ) → List A → Option ℕ
lowest_of place [] = None
lowest_of place (x ∷ xs) = lower (place x) (lowest_of place xs)

-- what a function gives for n numbers, from i on
abbrev pub tabulation : {A : Type 0} → (ℕ → A) → ℕ → ℕ → List A
tabulation f i zero = []
tabulation f i (suc n) = f i ∷ tabulation f (i + 1) n
