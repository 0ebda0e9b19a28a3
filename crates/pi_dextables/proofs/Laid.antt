-- Where the parts of a file stand, and what its header says.
use Rattle.std.proofs.Common.{◌≡◌, ℕ, ◌<◌, List, length, Some, ◌∙◌, arith}
use Rattle.std.specs.Prelude.{slice_get}
use Rattle.std.specs.List.{flat_map}
use Rattle.std.proofs.lemmas.Option.{slice_get_within}
use Rattle.std.proofs.lemmas.Bool.Decides.{nat_tests}
use Rattle.pi_parts.specs.Parts.{words}
use Rattle.pi_parts.proofs.Stands.{Stands}
use Rattle.pi_format.specs.Tables.{count_at, table_at, string_ids, type_ids, proto_ids, field_ids, method_ids, class_defs}
use Rattle.pi_dextables.specs.declared.tables.Tables.{Tables}
use Rattle.pi_dextables.specs.Items.{member_bytes}
use Rattle.pi_dextables.specs.Image.{types_begin, protos_begin, fields_begin, methods_begin, classes_begin, map_begin, lists_begin, lists_part, codes_begin, codes_part, strings_begin, strings_part, members_begin, members_part, arrays_begin, arrays_part, file_end, strings_table, protos_table, classes_table, map_part, where_some, header_words}

pub record Laid (file : List ℕ) (t : Tables) : Type 0 where
  pub whole : length file ≡ file_end t
  pub header : Stands file 32 (words (header_words t))
  pub strings : Stands file 112 (strings_table t)
  pub types : Stands file (types_begin t) (words t.types)
  pub protos : Stands file (protos_begin t) (protos_table t)
  pub fields : Stands file (fields_begin t) (flat_map member_bytes t.fields)
  pub methods : Stands file (methods_begin t) (flat_map member_bytes t.methods)
  pub classes : Stands file (classes_begin t) (classes_table t)
  pub map : Stands file (map_begin t) (map_part t)
  pub lists : Stands file (lists_begin t) (lists_part t)
  pub codes : Stands file (codes_begin t) (codes_part t)
  pub texts : Stands file (strings_begin t) (strings_part t)
  pub members : Stands file (members_begin t) (members_part t)
  pub arrays : Stands file (arrays_begin t) (arrays_part t)

-- what the header says of the tables
pub record Headed (file : List ℕ) (t : Tables) : Type 0 where
  pub strings : count_at file string_ids ≡ length t.strings
  pub strings_at : table_at file string_ids ≡ where_some (length t.strings) 112
  pub types : count_at file type_ids ≡ length t.types
  pub types_at : table_at file type_ids ≡ where_some (length t.types) (types_begin t)
  pub protos : count_at file proto_ids ≡ length t.protos
  pub protos_at : table_at file proto_ids ≡ where_some (length t.protos) (protos_begin t)
  pub fields : count_at file field_ids ≡ length t.fields
  pub fields_at : table_at file field_ids ≡ where_some (length t.fields) (fields_begin t)
  pub methods : count_at file method_ids ≡ length t.methods
  pub methods_at : table_at file method_ids ≡ where_some (length t.methods) (methods_begin t)
  pub classes : count_at file class_defs ≡ length t.classes
  pub classes_at : table_at file class_defs ≡ where_some (length t.classes) (classes_begin t)

-- a table with an entry stands where the header says
pub table_there : {X : Type 0} (file : List ℕ) (table at : ℕ) (xs : List X) (i : ℕ) (x : X) → table_at file table ≡ where_some (length xs) at
    → slice_get xs i ≡ Some x → table_at file table ≡ at
table_there file table at xs i x e is = e ∙ some_at (length xs) (slice_get_within xs i x is)
  where
    some_at : (count : ℕ) → i < count → where_some count at ≡ at
    some_at count lt = grind (arith, nat_tests)
