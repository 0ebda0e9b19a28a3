-- What the table of class definitions must hold, rule X17.
use Rattle.std.specs.Prelude.{ℕ, ◌+◌, ◌==◌, ◌&&◌, ◌||◌, not, nat_lt, codes, List, Option, Bool, if◌then◌else◌}
use Rattle.std.specs.List.{list_all}
use Rattle.std.specs.Prelude.{nat_eq}
use Rattle.pi_model.specs.Distinct.{all_distinct}
use Rattle.pi_model.specs.Texts.{same_text}
use Rattle.pi_bytes.specs.Numbers.{word_at, no_index}
use Rattle.pi_format.specs.Tables.{count_at, type_ids, class_defs}
use Rattle.pi_format.specs.Rules.Entries.{entry_at, broken_entry, some_from, list_fits, list_at}
use Rattle.pi_format.specs.Rules.Descriptors.{is_class_type}
use Rattle.pi_format.specs.Rules.Strings.{type_units}

-- a class definition: its type, its superclass, the offset of its interfaces
pub record ClassEntry : Type 0 where
  pub class : ℕ
  pub parent : ℕ
  pub faces : ℕ

abbrev pub class_entry : List ℕ → ℕ → ClassEntry
class_entry file i = record {
  class = word_at file (entry_at file class_defs 32 i);
  parent = word_at file (entry_at file class_defs 32 i + 8);
  faces = word_at file (entry_at file class_defs 32 i + 12);
}

-- there is a type of that number, and it is a class
abbrev pub is_class_id : List ℕ → ℕ → Bool
is_class_id file t = nat_lt t (count_at file type_ids) && is_class_type (type_units file t)

-- one of the first n definitions is that of a type
unfoldable pub is_defined_in : List ℕ → ℕ → ℕ → Bool
is_defined_in file n t = some_from (λ k. (class_entry file k).class == t) 0 n

-- a type that the file defines is defined before the definition of that number
unfoldable pub stands_earlier : List ℕ → ℕ → ℕ → Bool
stands_earlier file i t = not (is_defined_in file (count_at file class_defs) t) || is_defined_in file i t

unfoldable pub is_object : List ℕ → ℕ → Bool
is_object file t = same_text (codes "Ljava/lang/Object;") (type_units file t)

-- exactly Object has no superclass; any other has a type, which stands earlier if the file defines it
unfoldable pub parent_holds : List ℕ → ℕ → ClassEntry → Bool
parent_holds file i e =
    if e.parent == no_index then is_object file e.class
    else not (is_object file e.class) && (nat_lt e.parent (count_at file type_ids) && stands_earlier file i e.parent)

-- interfaces are distinct classes, each of which stands earlier if the file defines it
unfoldable pub faces_hold : List ℕ → ℕ → ClassEntry → Bool
faces_hold file i e =
    list_fits file e.faces
    && (list_all (λ t. is_class_id file t && stands_earlier file i t) (list_at file e.faces) && all_distinct nat_eq (list_at file e.faces))

-- X17: a definition is that of a class that was not defined before
abbrev pub class_holds : List ℕ → ℕ → Bool
class_holds file i =
    is_class_id file (class_entry file i).class && (not (is_defined_in file i (class_entry file i).class)
    && (parent_holds file i (class_entry file i) && faces_hold file i (class_entry file i)))

abbrev pub broken_classes : List ℕ → Option ℕ
broken_classes file = broken_entry file class_defs 32 (class_holds file)
