-- The lines of a text.
use Rattle.std.specs.Prelude.{ℕ, ◌==◌, List, [], ◌∷◌, if◌then◌else◌}

-- a byte at the front of the first line
abbrev pub before_line : ℕ → List (List ℕ) → List (List ℕ)
before_line b [] = (b ∷ []) ∷ []
before_line b (line ∷ others) = (b ∷ line) ∷ others

-- the lines, each without the newline that ends it; the last may lack one
abbrev pub lines : List ℕ → List (List ℕ)
lines [] = []
lines (b ∷ bs) = if b == 10 then [] ∷ lines bs else before_line b (lines bs)

-- the bytes before the first mark
abbrev pub front_of : ℕ → List ℕ → List ℕ
front_of mark [] = []
front_of mark (b ∷ bs) = if b == mark then [] else b ∷ front_of mark bs

-- the bytes behind the first mark
abbrev pub behind_of : ℕ → List ℕ → List ℕ
behind_of mark [] = []
behind_of mark (b ∷ bs) = if b == mark then bs else behind_of mark bs
