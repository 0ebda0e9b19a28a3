-- Types by their first units.
use Rattle.std.proofs.Common.{◌≡◌, ℕ, ◌<◌, List, [], ◌∷◌, None, Bool, true, false, refl, ap, arith}
use Rattle.std.specs.Prelude.{◌==◌, if◌then◌else◌}
use Rattle.std.proofs.lemmas.Bool.Decides.{nat_tests}
use Rattle.pi_format.specs.Tables.{count_at, string_ids, type_ids}
use Rattle.pi_format.specs.Rules.Descriptors.{begins_with, is_class_type, is_array_type, is_void, short_letter, words_of_type}
use Rattle.pi_format.specs.Rules.Strings.{type_string, broken_types}
use Rattle.pi_dexids.specs.Facts.{first_unit}
use Rattle.pi_format.proofs.Held.{type_named}

-- a type names a string that there is
pub type_in_range : (file : List ℕ) (k : ℕ) → broken_types file ≡ None → k < count_at file type_ids → type_string file k < count_at file string_ids
type_in_range file k e lt = type_named file k e lt

same_either_way : (u v : ℕ) → (u == v) ≡ (v == u)
same_either_way u v = by_test (u == v) (v == u) refl refl
  where
    by_test : (a b : Bool) → (u == v) ≡ a → (v == u) ≡ b → a ≡ b
    by_test true true e f = refl
    by_test false false e f = refl
    by_test true false e f = absurd (grind (arith, nat_tests))
    by_test false true e f = absurd (grind (arith, nat_tests))

pub letter_by : (c : ℕ) (units : List ℕ) → 0 < c → begins_with c units ≡ (c == first_unit units)
letter_by c [] some = grind (arith, nat_tests)
letter_by c (u ∷ us) some = refl

pub class_by : (units : List ℕ) → is_class_type units ≡ (first_unit units == 76)
class_by [] = refl
class_by (u ∷ us) = same_either_way 76 u

pub array_by : (units : List ℕ) → is_array_type units ≡ (first_unit units == 91)
array_by [] = refl
array_by (u ∷ us) = same_either_way 91 u

pub void_by : (units : List ℕ) → is_void units ≡ (first_unit units == 86)
void_by [] = refl
void_by (u ∷ us) = same_either_way 86 u

pub short_by : (units : List ℕ) → short_letter units ≡ (if first_unit units == 91 then 76 else first_unit units)
short_by [] = refl
short_by (u ∷ us) = refl

pub words_by : (units : List ℕ) → words_of_type units ≡ (if first_unit units == 74 then 2 else 1)
words_by [] = refl
words_by (u ∷ us) = ap (λ (b : Bool). if b then 2 else 1) (same_either_way 74 u)
