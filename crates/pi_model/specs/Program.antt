-- The program of a chain of files as plain data: its names, its types, its classes, and what each file brought.
use Rattle.std.specs.Prelude.{ℕ, ◌+◌, ◌^◌, ◌<◌, ◌≤◌, ◌==◌, not, List, [], ◌∷◌, ◌++◌, length, take, filter, sum_by, Bool}
use Rattle.std.specs.List.{list_any}
use Rattle.std.proofs.Common.{arith, refl}
use Rattle.std.proofs.lemmas.List.Filters.{length-filter_both}
use Rattle.pi_model.specs.declared.numbers.NameNo.{NameNo}
use Rattle.pi_model.specs.declared.describe.ClassDesc.{ClassDesc}

-- what one file brought: how many names there are up to its end, and the types that it names
pub record FilePart : Type 0 where
  pub names_to : ℕ
  pub types : List NameNo

-- a chain: names are distinct contents, a type is the name of its descriptor, classes are in order of definition
pub record Program : Type 0 where
  pub names : List (List ℕ)
  pub types : List NameNo
  pub classes : List ClassDesc
  pub files : List FilePart

-- the program of no file
abbrev pub no_files : Program
no_files = record { names = []; types = []; classes = []; files = [] }

-- the names are one number
abbrev pub same_name : NameNo → NameNo → Bool
same_name a b = a.0 == b.0

-- the types of a file that the files before it did not name
abbrev pub new_types : List NameNo → List NameNo → List NameNo
new_types old types = filter (λ t. not (list_any (same_name t) old)) types

-- no more types are new than there are
pub new_types_bound : (old types : List NameNo) → length (new_types old types) ≤ length types
new_types_bound old types =
    omega (arith, length-filter_both (λ t. not (list_any (same_name t) old)) (λ t. not (not (list_any (same_name t) old))) (λ _. refl) types)

-- a chain with one more file: its new names, then the types that were not there, then its classes
abbrev pub with_file : Program → List (List ℕ) → List NameNo → List ClassDesc → Program
with_file p names types classes = record {
  names = p.names ++ names;
  types = p.types ++ new_types p.types types;
  classes = p.classes ++ classes;
  files = p.files ++ record { names_to = length p.names + length names; types = types } ∷ [];
}

-- how many fields a class lists
abbrev pub field_count : ClassDesc → ℕ
field_count d = length d.fields

-- how many methods a class lists
abbrev pub method_count : ClassDesc → ℕ
method_count d = length d.methods

-- the number of a field of a class: the fields of the classes before it, and its place
abbrev pub field_number : Program → ℕ → ℕ → ℕ
field_number p c place = sum_by field_count (take c p.classes) + place

-- the number of a method of a class: the methods of the classes before it, and its place
abbrev pub method_number : Program → ℕ → ℕ → ℕ
method_number p c place = sum_by method_count (take c p.classes) + place

-- how many fields the whole program has
abbrev pub all_fields : Program → ℕ
all_fields p = sum_by field_count p.classes

-- how many methods the whole program has
abbrev pub all_methods : Program → ℕ
all_methods p = sum_by method_count p.classes

-- a number of 32 bits counts each kind of thing of a program, and there are at most eight files
pub record IsCounted (p : Program) : Type 0 where
  pub names : length p.names < 2 ^ 32
  pub types : length p.types < 2 ^ 32
  pub classes : length p.classes < 2 ^ 32
  pub fields : all_fields p < 2 ^ 32
  pub methods : all_methods p < 2 ^ 32
  pub files : length p.files ≤ 8
