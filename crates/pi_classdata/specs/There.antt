-- What rows and values name is in the file.
use Rattle.std.specs.Prelude.{◌≡◌, ◌<◌, ℕ, List}
use Rattle.std.specs.List.{All}
use Rattle.pi_format.specs.Tables.{count_at, string_ids, type_ids, field_ids, method_ids}
use Rattle.pi_format.specs.Rules.Members.{member_entry}
use Rattle.pi_format.specs.Rules.Rows.{MemberRow}
use Rattle.pi_format.specs.Rules.ClassData.{ClassRows}
use Rattle.pi_format.specs.Rules.Values.{EncodedValue}

-- the table has a member of that number, and it belongs to the class
pub record IsMember (file : List ℕ) (table class : ℕ) (row : MemberRow) : Type 0 where
  pub there : row.id < count_at file table
  pub owned : (member_entry file table row.id).class ≡ class

-- all rows are fields and methods of the class
pub record AreMembers (file : List ℕ) (class : ℕ) (rows : ClassRows) : Type 0 where
  pub statics : All (IsMember file field_ids class) rows.statics
  pub instances : All (IsMember file field_ids class) rows.instances
  pub directs : All (IsMember file method_ids class) rows.directs
  pub virtuals : All (IsMember file method_ids class) rows.virtuals

-- there is the string that a value is, and the type of which it is the class
pub record NamesThere (file : List ℕ) (v : EncodedValue) : Type 0 where
  pub string : v.kind ≡ 0x17 → v.number < count_at file string_ids
  pub class : v.kind ≡ 0x18 → v.number < count_at file type_ids
