-- What holds of a small program that files say: its one class fits, each instruction begins where the one before it
-- ends, the numbers of registers fit their type, no field has a value of its own, and the class is of the second file
-- and implements nothing.
use Rattle.std.specs.Prelude.{◌≡◌, ℕ, ◌<◌, ◌≤◌, ◌++◌, length, slice_index, List, [], ◌∷◌, None, true}
use Rattle.std.specs.List.{list_all}
use Rattle.pi_model.specs.declared.numbers.NameNo.{NameNo}
use Rattle.pi_model.specs.declared.describe.ClassDesc.{ClassDesc}
use Rattle.pi_model.specs.Distinct.{all_distinct}
use Rattle.pi_model.specs.Program.{Program, with_file}
use Rattle.pi_model.specs.Texts.{same_text}
use Rattle.pi_bytes.specs.Numbers.{most_bytes}
use Rattle.pi_format.specs.Core.{core_names, core_program}
use Rattle.pi_format.specs.Rules.{broken_rule}
use Rattle.pi_format.specs.Says.{SaysNext, with_said}
use Rattle.pi_format.specs.Says.Facts.{method_laid, method_small}
use Rattle.pi_duty.specs.Small.{class_fits, has_text, has_no_value, is_small}

-- what a file brings beside its classes: names, and the types that it names
pub record Brought : Type 0 where
  pub names : List (List ℕ)
  pub types : List NameNo

-- the program of the first file and one more with this class
abbrev pub small_chain : Brought → ClassDesc → Program
small_chain new d = with_file core_program new.names new.types (d ∷ [])

-- the program is that of the first file and one class more, which fits and is named so
pub record HasSmallClass (main : List ℕ) (p : Program) : Type 0 where
  pub new : Brought
  pub class : ClassDesc
  pub chain : p ≡ small_chain new class
  pub distinct : all_distinct same_text (core_names ++ new.names) ≡ true
  pub fits : class_fits class ≡ true
  pub named : has_text (core_names ++ new.names) class.name main ≡ true

-- and the class is as the bytes of a file make it
pub record IsSmall (main : List ℕ) (p : Program) : Type 0 where
  pub one : HasSmallClass main p
  pub laid : list_all method_laid one.class.methods ≡ true
  pub narrow : list_all method_small one.class.methods ≡ true
  pub zero_values : list_all has_no_value one.class.fields ≡ true
  pub second : one.class.file.0 ≡ 1
  pub no_faces : one.class.faces ≡ []

-- a file that breaks no rule and says a small program behind the first file says one such class
abbrev pub SmallHasClass : Type 0
SmallHasClass = (main file : List ℕ) → broken_rule file ≡ None → length file ≤ most_bytes → is_small main (with_said core_program file) ≡ true
    → HasSmallClass main (with_said core_program file)

-- and where it is a list of bytes, the program has this shape
abbrev pub SmallHasShape : Type 0
SmallHasShape = (main file : List ℕ) (p : Program) → SaysNext core_program file p → length file ≤ most_bytes → ((k : ℕ) → slice_index file k < 256)
    → is_small main p ≡ true → IsSmall main p
