-- The numbers of what the members of a class name, taken off a list one after another.
use Rattle.std.specs.Prelude.{ℕ, ◌+◌, List, [], ◌∷◌, length, drop, count_by, is_some, Option, Some, None}
use Rattle.pi_model.specs.declared.describe.Catch.{Catch}
use Rattle.pi_model.specs.declared.describe.Code.{Code}
use Rattle.pi_model.specs.declared.describe.FieldDesc.{FieldDesc}
use Rattle.pi_model.specs.declared.describe.MethodDesc.{MethodDesc}
use Rattle.pi_model.specs.declared.describe.Init.{Init}
use Rattle.pi_model.specs.declared.describe.Init.TheVariants.{Zero, Word, Long, Str, Cls}

-- the first of the numbers, 0 where there is none, and those behind it
abbrev pub first_no : List ℕ → ℕ
first_no [] = 0
first_no (n ∷ ns) = n

abbrev pub behind_first : List ℕ → List ℕ
behind_first [] = []
behind_first (n ∷ ns) = ns

-- the number of what a value names, 0 where it names nothing, and the numbers behind
abbrev pub init_no : Init → List ℕ → ℕ
init_no Zero ns = 0
init_no (Word w) ns = 0
init_no (Long l) ns = 0
init_no (Str s) ns = first_no ns
init_no (Cls t) ns = first_no ns

abbrev pub behind_init : Init → List ℕ → List ℕ
behind_init Zero ns = ns
behind_init (Word w) ns = ns
behind_init (Long l) ns = ns
behind_init (Str s) ns = behind_first ns
behind_init (Cls t) ns = behind_first ns

-- the numbers behind those of a field, and behind those of fields
abbrev pub behind_field : FieldDesc → List ℕ → List ℕ
behind_field f ns = behind_init f.init (behind_first ns)

abbrev pub behind_fields : List FieldDesc → List ℕ → List ℕ
behind_fields [] ns = ns
behind_fields (f ∷ fs) ns = behind_fields fs (behind_field f ns)

-- how many numbers a code has: one for each instruction, and one for each handler that catches a type
abbrev pub code_names : Code → ℕ
code_names c = length c.insns + count_by (λ (t : Catch). is_some t.ty) c.tries

abbrev pub optional_names : Option Code → ℕ
optional_names None = 0
optional_names (Some c) = code_names c

-- the numbers behind those of a method
abbrev pub behind_method : MethodDesc → List ℕ → List ℕ
behind_method m ns = drop (optional_names m.code) (behind_first ns)
