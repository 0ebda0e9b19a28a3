-- The class itself in its row, by the numbers of what it names.
use Rattle.std.specs.Prelude.{ℕ, List, length, take, drop, Option, Some, None}
use Rattle.pi_model.specs.declared.describe.ClassDesc.{ClassDesc}
use Rattle.pi_model.specs.declared.numbers.NameNo.{NameNo}
use Rattle.pi_dextables.specs.declared.tables.Class.{Class}
use Rattle.pi_dexrows.specs.declared.field_lists.FieldLists.{FieldLists}
use Rattle.pi_dexrows.specs.declared.head.Head.{Head}
use Rattle.pi_dexrows.specs.declared.rows.MethodLists.{MethodLists}
use Rattle.pi_dexrows.specs.Taken.{first_no, behind_first}

-- the number of a superclass, where there is one, and the numbers behind it
abbrev pub parent_no : Option NameNo → List ℕ → Option ℕ
parent_no None ns = None
parent_no (Some t) ns = Some (first_no ns)

abbrev pub behind_parent : Option NameNo → List ℕ → List ℕ
behind_parent None ns = ns
behind_parent (Some t) ns = behind_first ns

-- the types of a class, of its superclass and of its interfaces, and the numbers behind them
abbrev pub head_of : ClassDesc → List ℕ → Head
head_of d ns = record {
  class = first_no ns;
  parent = parent_no d.parent (behind_first ns);
  faces = take (length d.faces) (behind_parent d.parent (behind_first ns));
}

abbrev pub behind_head : ClassDesc → List ℕ → List ℕ
behind_head d ns = drop (length d.faces) (behind_parent d.parent (behind_first ns))

-- the row that these make
abbrev pub row_of : ℕ → Head → FieldLists → MethodLists → Class
row_of flags head fields methods = record {
  class = head.class;
  flags = flags;
  parent = head.parent;
  faces = head.faces;
  values = fields.values;
  statics = fields.statics;
  instances = fields.instances;
  directs = methods.directs;
  virtuals = methods.virtuals;
}
