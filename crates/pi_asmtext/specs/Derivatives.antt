-- What is left of a pattern behind the first element of a list.
use Rattle.std.specs.Prelude.{Bool, true, false, ◌&&◌, ◌||◌, List, [], ◌∷◌, Option, Some, None, if◌then◌else◌}
use Rattle.pi_asmtext.specs.Patterns.{Pattern, Empty, One, Then, Either, Many}

-- one pattern and then another, without empty parts
abbrev pub sequence : {C : Type 0} → Pattern C → Pattern C → Pattern C
sequence Empty q = q
sequence (One c) q = Then (One c) q
sequence (Then p r) q = Then p (sequence r q)
sequence (Either p r) q = Then (Either p r) q
sequence (Many p) q = Then (Many p) q

-- what is left of one pattern, and then another
abbrev pub then_left : {C : Type 0} → Option (Pattern C) → Pattern C → Option (Pattern C)
then_left None q = None
then_left (Some p) q = Some (sequence p q)

-- what is left of either of two patterns
abbrev pub either_left : {C : Type 0} → Option (Pattern C) → Option (Pattern C) → Option (Pattern C)
either_left None q = q
either_left (Some p) None = Some p
either_left (Some p) (Some q) = Some (Either p q)

-- the empty list fits
abbrev pub may_end : {C : Type 0} → Pattern C → Bool
may_end Empty = true
may_end (One c) = false
may_end (Then p q) = may_end p && may_end q
may_end (Either p q) = may_end p || may_end q
may_end (Many p) = true

-- what is left behind an element, None where no list that fits begins with it
abbrev pub derivative : {C A : Type 0} → (C → A → Bool) → A → Pattern C → Option (Pattern C)
derivative test x Empty = None
derivative test x (One c) = if test c x then Some Empty else None
derivative test x (Then p q) =
    if may_end p then either_left (then_left (derivative test x p) q) (derivative test x q) else then_left (derivative test x p) q
derivative test x (Either p q) = either_left (derivative test x p) (derivative test x q)
derivative test x (Many p) = then_left (derivative test x p) (Many p)

-- what is left behind a list
abbrev pub derivative_by : {C A : Type 0} → (C → A → Bool) → List A → Option (Pattern C) → Option (Pattern C)
derivative_by test xs None = None
derivative_by test [] (Some p) = Some p
derivative_by test (x ∷ xs) (Some p) = derivative_by test xs (derivative test x p)

-- what is left may end
abbrev pub ends : {C : Type 0} → Option (Pattern C) → Bool
ends None = false
ends (Some p) = may_end p

-- the list fits, as a test
abbrev pub fits : {C A : Type 0} → (C → A → Bool) → Pattern C → List A → Bool
fits test p xs = ends (derivative_by test xs (Some p))
