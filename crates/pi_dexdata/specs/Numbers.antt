-- The numbers that the parts of classes are made with.
use Rattle.std.specs.Prelude.{ℕ, List, [], ◌∷◌, Option, Some, None}
use Rattle.pi_model.specs.declared.numbers.NameNo.{NameNo}
use Rattle.pi_contents.specs.Contents.{CatchContent, InitContent, NoInit, WordInit, LongInit, TextInit, TypeInit}
use Rattle.pi_classtables.specs.Numbers.{Pools, string_no, type_no}

-- the number of the string or the type that a value names, 0 where it names none
abbrev pub init_number : Pools → InitContent → ℕ
init_number p NoInit = 0
init_number p (WordInit w) = 0
init_number p (LongInit l) = 0
init_number p (TextInit s) = string_no p s
init_number p (TypeInit u) = type_no p u

-- the types that entries of a handler table catch, in order
abbrev pub with_caught : Option (List ℕ) → List (List ℕ) → List (List ℕ)
with_caught None types = types
with_caught (Some t) types = t ∷ types

abbrev pub caught : List CatchContent → List (List ℕ)
caught [] = []
caught (c ∷ cs) = with_caught c.ty (caught cs)

-- the empty text for every name, where texts do not matter
abbrev pub no_text : NameNo → List ℕ
no_text name = []
