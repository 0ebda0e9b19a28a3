-- One text more, behind names and the new ones so far.
use Rattle.std.specs.Prelude.{ℕ, ◌+◌, List, [], ◌∷◌, ◌++◌, length, position, Option, Some, None}
use Rattle.pi_model.specs.declared.numbers.NameNo.{NameNo}
use Rattle.pi_model.specs.Texts.{same_text}
use Rattle.pi_format.specs.Core.{name_no}

-- the new names with it, where it is none of the names
abbrev pub noted_names : List (List ℕ) → List (List ℕ) → List ℕ → List (List ℕ)
noted_names names new text = by_place (position (same_text text) names) new text
  where
    by_place : Option ℕ → List (List ℕ) → List ℕ → List (List ℕ)
    by_place (Some n) new text = new
    by_place None new text = new ++ text ∷ []

-- the numbers with its number
abbrev pub noted_numbers : List (List ℕ) → List (List ℕ) → List NameNo → List ℕ → List NameNo
noted_numbers names new numbers text = by_place (position (same_text text) names) numbers (length names + length new)
  where
    by_place : Option ℕ → List NameNo → ℕ → List NameNo
    by_place (Some n) numbers next = numbers ++ name_no n ∷ []
    by_place None numbers next = numbers ++ name_no next ∷ []
