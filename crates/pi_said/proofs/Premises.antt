-- Worked instances in which the premises of the laws hold, and in which they fail. That a file breaks no rule is not worked
-- out here, since that asks for its SHA-1: the reader, which answers Ok exactly there, does so in the cases.
use Rattle.std.proofs.Common.{◌≡◌, Some, ℕ, [], ◌∷◌, true, ◌++◌, List, refl, arith}
use Rattle.std.specs.Prelude.{nat_lt, replicate}
use Rattle.pi_model.specs.Program.{Program, no_files}
use Rattle.pi_model.specs.Valid.{IsProgram}
use Rattle.pi_model.proofs.Kept.{kept_at_first}
use Rattle.pi_format.specs.Tables.{count_at, string_ids}
use Rattle.pi_format.specs.Rules.{broken_rule, broken_tables_rule}
use Rattle.pi_format.specs.Says.{HasRoom, Says}

-- no file says the program of no file, which is one and has room
says_nothing : Says [] no_files
says_nothing = refl

nothing_is_program : IsProgram no_files
nothing_is_program = kept_at_first

nothing_has_room : HasRoom no_files
nothing_has_room = record { names = omega arith; types = omega arith; classes = omega arith; fields = omega arith; methods = omega arith }

-- a name of no file has no room, and a type needs a name
abbrev one_name : Program
one_name = record no_files { names = [] ∷ [] }

one_name_has_no_room : ¬ HasRoom one_name
one_name_has_no_room k = let x = k.names in omega arith

abbrev one_type : Program
one_type = record no_files { types = record { 0 = 5 } ∷ [] }

type_without_name : ¬ IsProgram one_type
type_without_name k = let x = k.types_named in cc

-- the empty file breaks the first rule, so it says no program
breaks_the_first : broken_rule [] ≡ Some (record { rule = 1; at = 0 })
unfolding broken_tables_rule
breaks_the_first = refl

says_no_program : (p : Program) → ¬ Says ([] ∷ []) p
unfolding broken_tables_rule
says_no_program p s = let x = s.0.kept in cc

-- a file whose header counts one string has a first one, and the empty file has none
abbrev one_string : List ℕ
one_string = replicate 56 0 ++ 1 ∷ []

has_a_string : nat_lt 0 (count_at one_string string_ids) ≡ true
has_a_string = refl

has_no_string : count_at [] string_ids ≡ 0
has_no_string = refl
