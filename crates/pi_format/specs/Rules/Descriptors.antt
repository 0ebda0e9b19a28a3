-- Descriptors of types and names of members, by their units.
use Rattle.std.specs.Prelude.{ℕ, zero, suc, ◌==◌, ◌&&◌, ◌||◌, not, codes, List, [], ◌∷◌, Bool, true, false, if◌then◌else◌}
use Rattle.std.specs.List.{list_all, list_any}
use Rattle.pi_model.specs.Texts.{same_text}

-- `.`, `;`, `[` and `/`, which no part of a name has
abbrev pub is_mark : ℕ → Bool
is_mark u = u == 46 || (u == 59 || (u == 91 || u == 47))

-- parts that are not empty, joined by `/`, with a `;` at the end; the flag says that the present part has a unit
unfoldable pub is_class_name : Bool → List ℕ → Bool
is_class_name begun [] = false
is_class_name begun (u ∷ []) = begun && (u == 59)
is_class_name begun (u ∷ v ∷ units) =
    if u == 47 then begun && is_class_name false (v ∷ units) else not (is_mark u) && is_class_name true (v ∷ units)

-- Z, B, S, C, I and J
abbrev pub is_primitive : ℕ → Bool
is_primitive u = u == 90 || (u == 66 || (u == 83 || (u == 67 || (u == 73 || u == 74))))

-- a primitive or a class
abbrev pub is_simple : List ℕ → Bool
is_simple [] = false
is_simple (u ∷ []) = is_primitive u
is_simple (u ∷ v ∷ units) = (u == 76) && is_class_name false (v ∷ units)

-- a primitive or a class behind at most so many `[`
unfoldable pub is_array_of : ℕ → List ℕ → Bool
is_array_of n [] = false
is_array_of zero (u ∷ units) = is_simple (u ∷ units)
is_array_of (suc n) (u ∷ units) = if u == 91 then is_array_of n units else is_simple (u ∷ units)

-- V, or a primitive or a class behind at most 255 `[`
abbrev pub is_descriptor : List ℕ → Bool
is_descriptor units = same_text (codes "V") units || is_array_of 255 units

abbrev pub begins_with : ℕ → List ℕ → Bool
begins_with u [] = false
begins_with u (v ∷ units) = u == v

-- the descriptor of a class, of an array, of no value
abbrev pub is_class_type : List ℕ → Bool
is_class_type units = begins_with 76 units

abbrev pub is_array_type : List ℕ → Bool
is_array_type units = begins_with 91 units

abbrev pub is_void : List ℕ → Bool
is_void units = begins_with 86 units

-- the letter of a type in a short form: every reference is an L
abbrev pub short_letter : List ℕ → ℕ
short_letter [] = 0
short_letter (u ∷ units) = if u == 91 then 76 else u

-- the argument words of a type
abbrev pub words_of_type : List ℕ → ℕ
words_of_type units = if begins_with 74 units then 2 else 1

-- the name of a member: not empty and without marks
abbrev pub is_member_name : List ℕ → Bool
is_member_name [] = false
is_member_name (u ∷ units) = not (is_mark u) && list_all (λ v. not (is_mark v)) units

-- a name with `<` is that of a constructor or an initialiser
abbrev pub is_method_name : List ℕ → Bool
is_method_name units =
    is_member_name units
    && (not (list_any (λ u. u == 60) units) || (same_text (codes "<init>") units || same_text (codes "<clinit>") units))
