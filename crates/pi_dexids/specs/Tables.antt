-- A file whose header and tables of ids were tested.
use Rattle.std.specs.Prelude.{◌≡◌, ◌≤◌, ℕ, List, length, true}
use Rattle.pi_bytes.specs.Numbers.{most_bytes}
use Rattle.pi_format.specs.Tables.{table_holds, count_at, string_ids, type_ids, proto_ids, field_ids, method_ids, class_defs}

-- the header is there, and each table of ids is in the file
pub record HasTables (file : List ℕ) : Type 0 where
  pub header : 112 ≤ length file
  pub small : length file ≤ most_bytes
  pub strings : table_holds file string_ids 4 ≡ true
  pub types : table_holds file type_ids 4 ≡ true
  pub protos : table_holds file proto_ids 12 ≡ true
  pub fields : table_holds file field_ids 8 ≡ true
  pub methods : table_holds file method_ids 8 ≡ true
  pub classes : table_holds file class_defs 32 ≡ true
  pub few_types : count_at file type_ids ≤ 65535
  pub few_protos : count_at file proto_ids ≤ 65535
