-- What a file says behind a program, by its parts.
use Rattle.std.proofs.Common.{◌≡◌, ℕ, List, length, None, refl, sym, ap, ◌∙◌, subst}
use Rattle.std.specs.Prelude.{OnOk, Result, Ok, Err}
use Rattle.pi_model.specs.declared.numbers.NameNo.{NameNo}
use Rattle.pi_model.specs.declared.describe.ClassDesc.{ClassDesc}
use Rattle.pi_model.specs.Program.{Program, with_file}
use Rattle.pi_model.specs.Valid.{FitsBehind}
use Rattle.pi_format.specs.Rules.{broken_rule}
use Rattle.pi_format.specs.Says.{named_file, with_said, HasRoom, SaysNext}
use Rattle.pi_format.specs.Says.Classes.{types_said, classes_said}
use Rattle.pi_format.specs.Says.Names.{Named, texts_of, new_names, name_numbers}

-- the parts that are added are those that the file says
pub record AreParts (p : Program) (file : List ℕ) (names : List (List ℕ)) (types : List NameNo) (classes : List ClassDesc) : Type 0 where
  pub names_are : names ≡ new_names p.names (texts_of file)
  pub types_are : types ≡ types_said (named_file p file)
  pub classes_are : classes ≡ classes_said (named_file p file) (length p.files)

pub are_parts : (p : Program) (file : List ℕ) (n : Named) (numbers : List NameNo) (k : ℕ) (names : List (List ℕ)) (types : List NameNo) (classes : List ClassDesc)
    → n ≡ record { file = file; numbers = numbers } → numbers ≡ name_numbers p.names file → k ≡ length p.files
    → names ≡ new_names p.names (texts_of file) → types ≡ types_said n → classes ≡ classes_said n k → AreParts p file names types classes
are_parts p file n numbers k names types classes is by_names at new said defined = record {
  names_are = new;
  types_are = said ∙ ap types_said named_is;
  classes_are = defined ∙ ap (λ (m : Named). classes_said m k) named_is ∙ ap (classes_said (named_file p file)) at;
}
  where
    named_is : n ≡ named_file p file
    named_is = rw (is, by_names) refl

pub parts_fit : (p : Program) (file : List ℕ) (names : List (List ℕ)) (types : List NameNo) (classes : List ClassDesc) → AreParts p file names types classes
    → FitsBehind p (new_names p.names (texts_of file)) (types_said (named_file p file)) (classes_said (named_file p file) (length p.files)) → FitsBehind p names types classes
parts_fit p file names types classes are fits = rw (are.names_are, are.types_are, are.classes_are) fits

pub parts_said : (p : Program) (file : List ℕ) (names : List (List ℕ)) (types : List NameNo) (classes : List ClassDesc) → AreParts p file names types classes
    → with_file p names types classes ≡ with_said p file
unfolding with_said
parts_said p file names types classes are = rw (are.names_are, are.types_are, are.classes_are) refl

-- where the file was added, the program says it, and there is room behind it
pub said_next : {A E : Type 0} (r : Result A E) (p : Program) (file : List ℕ) (after : Program) (names : List (List ℕ)) (types : List NameNo) (classes : List ClassDesc)
    → AreParts p file names types classes → broken_rule file ≡ None → OnOk r (after ≡ with_file p names types classes) → OnOk r (SaysNext p file after)
said_next (Ok x) p file after names types classes are kept added = record { kept = kept; chain = added ∙ parts_said p file names types classes are }
said_next (Err e) p file after names types classes are kept added = _

pub room_behind : {A E : Type 0} (r : Result A E) (p : Program) (file : List ℕ) (after : Program) → HasRoom (with_said p file) → OnOk r (SaysNext p file after) → OnOk r (HasRoom after)
room_behind (Ok x) p file after room said = subst HasRoom (sym said.chain) room
room_behind (Err e) p file after room said = _
