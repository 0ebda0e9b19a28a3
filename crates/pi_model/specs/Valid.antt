-- What every program keeps, and what a file has to keep to be added behind one.
use Rattle.std.specs.Prelude.{ℕ, ◌+◌, ◌^◌, ◌<◌, ◌==◌, ◌&&◌, nat_lt, nat_le, List, ◌++◌, length, sum_by, Bool, IsTrue}
use Rattle.std.specs.List.{list_all}
use Rattle.pi_model.specs.declared.numbers.NameNo.{NameNo}
use Rattle.pi_model.specs.declared.describe.ClassDesc.{ClassDesc}
use Rattle.pi_model.specs.Distinct.{all_distinct}
use Rattle.pi_model.specs.Texts.{same_text}
use Rattle.pi_model.specs.Uses.{names_below, class_below}
use Rattle.pi_model.specs.Program.{FilePart, Program, same_name, new_types, field_count, method_count, all_fields, all_methods, IsCounted}

-- the class is one of the file of that number
abbrev pub of_file : ℕ → ClassDesc → Bool
of_file file d = d.file.0 == file

-- the class is of one of the first so many files
abbrev pub of_files : ℕ → ClassDesc → Bool
of_files count d = nat_lt d.file.0 count

abbrev pub part_below : ℕ → FilePart → Bool
part_below count part = nat_le part.names_to count && names_below count part.types

-- what every program keeps: it is counted, its names are distinct contents and its types distinct names, and every
-- number in it is one of its names or of its files
pub record IsProgram (p : Program) : Type 0 where
  pub counted : IsCounted p
  pub names_distinct : IsTrue (all_distinct same_text p.names)
  pub types_distinct : IsTrue (all_distinct same_name p.types)
  pub types_named : IsTrue (names_below (length p.names) p.types)
  pub classes_named : IsTrue (list_all (class_below (length p.names)) p.classes)
  pub classes_filed : IsTrue (list_all (of_files (length p.files)) p.classes)
  pub parts_named : IsTrue (list_all (part_below (length p.names)) p.files)

-- what a file has to keep to be added behind a program: there is room, its names are distinct and not there yet, its
-- types are distinct, each class has its number, and each number that it uses is one of the names
pub record FitsBehind (p : Program) (names : List (List ℕ)) (types : List NameNo) (classes : List ClassDesc) : Type 0 where
  pub files : length p.files < 8
  pub names_count : length p.names + length names < 2 ^ 32
  pub types_count : length p.types + length (new_types p.types types) < 2 ^ 32
  pub classes_count : length p.classes + length classes < 2 ^ 32
  pub fields_count : all_fields p + sum_by field_count classes < 2 ^ 32
  pub methods_count : all_methods p + sum_by method_count classes < 2 ^ 32
  pub names_distinct : IsTrue (all_distinct same_text (p.names ++ names))
  pub types_distinct : IsTrue (all_distinct same_name types)
  pub types_named : IsTrue (names_below (length p.names + length names) types)
  pub classes_filed : IsTrue (list_all (of_file (length p.files)) classes)
  pub classes_named : IsTrue (list_all (class_below (length p.names + length names)) classes)
