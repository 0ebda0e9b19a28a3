-- What a selection text says: classes of one file of a program.
use Rattle.std.specs.Prelude.{ℕ, ◌==◌, List, [], ◌∷◌, ◌++◌, Option, Some, None, Result, Bool, false, if◌then◌else◌, option_and_then}
use Rattle.std.specs.List.{list_any}
use Rattle.pi_model.specs.declared.numbers.ClassNo.{ClassNo}
use Rattle.pi_model.specs.declared.describe.ClassDesc.{ClassDesc}
use Rattle.pi_model.specs.Program.{Program}
use Rattle.pi_model.specs.Search.{class_of, class_at}
use Rattle.pi_model.specs.Texts.{name_of}
use Rattle.pi_job.specs.Lines.{lines}
use Rattle.pi_job.specs.Telling.{told_from}
use Rattle.pi_job.specs.Taking.{SaysWhole, IsFirstBroken}
use Rattle.pi_job.specs.Units.{text_units}

-- the class of a descriptor
abbrev pub class_called : Program → List ℕ → Option ℕ
class_called p units = option_and_then (λ n. class_of p (record { 0 = n })) (name_of p units)

-- the class of that number is one of the file
abbrev pub is_of_file : Program → ℕ → ℕ → Bool
is_of_file p file c = by_class (class_at p c)
  where
    by_class : Option ClassDesc → Bool
    by_class None = false
    by_class (Some d) = d.file.0 == file

-- the class, where it is one of the file
abbrev pub class_in : Program → ℕ → ℕ → Option ClassNo
class_in p file c = if is_of_file p file c then Some (record { 0 = c }) else None

-- the class of the file that a line names
abbrev pub class_on : Program → ℕ → List ℕ → Option ClassNo
class_on p file line = option_and_then (class_in p file) (option_and_then (class_called p) (text_units line))

-- the class is that number
abbrev pub is_class : ℕ → ClassNo → Bool
is_class c d = c == d.0

-- classes with one more, which was not named before
abbrev pub with_class : List ClassNo → ClassNo → Option (List ClassNo)
with_class before c = if list_any (is_class c.0) before then None else Some (before ++ c ∷ [])

-- the classes with the one that a line adds: one of the file, not named before
abbrev pub class_added : Program → ℕ → List ClassNo → List ℕ → Option (List ClassNo)
class_added p file before line = option_and_then (with_class before) (class_on p file line)

-- a selection is whole after any line
abbrev pub whole_selection : List ClassNo → Option (List ClassNo)
whole_selection classes = Some classes

-- the classes of a selection text, or its first wrong line
abbrev pub selection_of : Program → ℕ → List ℕ → Result (List ClassNo) ℕ
selection_of p file bytes = told_from (class_added p file) whole_selection [] 1 (lines bytes)

-- the lines of a text name those classes, in their order
abbrev pub SaysSelection : Program → ℕ → List ℕ → List ClassNo → Type 0
SaysSelection p file bytes classes = SaysWhole (class_added p file) whole_selection [] (lines bytes) classes

-- the first line of a text that breaks a rule of selections has that number
abbrev pub IsWrongClass : Program → ℕ → List ℕ → ℕ → Type 0
IsWrongClass p file bytes n = IsFirstBroken (class_added p file) whole_selection [] (lines bytes) n
