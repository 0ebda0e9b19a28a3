-- Texts and descriptors by their units, and the names that the rules of the machine speak of.
use Rattle.std.specs.Prelude.{ℕ, nat_eq, List, [], ◌∷◌, Option, Some, None, Bool, true, false, if◌then◌else◌, position, slice_get, unwrap_or}
use Rattle.std.specs.Cmp.Lexicographic.{pointwise}
use Rattle.pi_model.specs.declared.numbers.NameNo.{NameNo}
use Rattle.pi_model.specs.Program.{Program}

-- two texts have the same units
abbrev pub same_text : List ℕ → List ℕ → Bool
same_text a b = pointwise nat_eq a b

-- the units of the name of a number, none where there is no such name
abbrev pub units_of : Program → ℕ → List ℕ
units_of p n = unwrap_or (slice_get p.names n) []

-- a text has the name of that number
abbrev pub is_named : Program → NameNo → List ℕ → Bool
is_named p n text = by_content (slice_get p.names n.0) text
  where
    by_content : Option (List ℕ) → List ℕ → Bool
    by_content None text = false
    by_content (Some units) text = same_text units text

-- the names are those of the texts, in order
abbrev pub are_named : Program → List NameNo → List (List ℕ) → Bool
are_named p [] [] = true
are_named p (n ∷ ns) (t ∷ ts) = if is_named p n t then are_named p ns ts else false
are_named p [] (t ∷ ts) = false
are_named p (n ∷ ns) [] = false

-- the number of the name of a text
abbrev pub name_of : Program → List ℕ → Option ℕ
name_of p text = position (same_text text) p.names
