-- Lists without equal elements.
use Rattle.std.specs.Prelude.{Bool, true, false, List, [], ◌∷◌, if◌then◌else◌}
use Rattle.std.specs.List.{list_any}

-- no two of a list are the same
abbrev pub all_distinct : {A : Type 0} → (A → A → Bool) → List A → Bool
all_distinct same [] = true
all_distinct same (x ∷ xs) = if list_any (same x) xs then false else all_distinct same xs
