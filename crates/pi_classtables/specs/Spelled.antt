-- What must hold of a class so that a file can say it: what the format cannot spell is not there, and its codes are laid out as
-- the writer lays them out. Numbers fit the types that a program has for them.
use Rattle.std.specs.Prelude.{◌≡◌, ℕ, ◌≤◌, ◌+◌, ◌^◌, ◌&&◌, ◌||◌, not, nat_lt, nat_le, List, ◌++◌, length, IsSome, IsTrue, IfSome, Bool, true}
use Rattle.std.specs.List.{All, list_all}
use Rattle.pi_model.specs.Flags.{is_static}
use Rattle.pi_contents.specs.Contents.{LineContent, CatchContent, CodeContent, InitContent, NoInit, WordInit, LongInit, TextInit, TypeInit, FieldContent}
use Rattle.pi_contents.specs.Asked.{has_init}
use Rattle.pi_classtables.specs.Numbers.{no_pools}
use Rattle.pi_classtables.specs.Layout.{code_units, data_end, data_fits, front, lines_end, pad_lines}
use Rattle.pi_classtables.specs.Ranges.{groups_of}
use Rattle.pi_classtables.specs.Whole.{Added, Method, added_methods}

-- a field is set to something other than 0, and only a static field is set
abbrev pub init_spelled : InitContent → Bool
init_spelled NoInit = true
init_spelled (WordInit w) = nat_lt 0 w
init_spelled (LongInit l) = nat_lt 0 l
init_spelled (TextInit s) = true
init_spelled (TypeInit t) = true

abbrev pub field_spelled : FieldContent → Bool
field_spelled f = init_spelled f.init && (is_static f.flags || not (has_init f.init))

-- a range ends no earlier than it begins, and has at most 65,535 units
abbrev pub catch_spelled : CatchContent → Bool
catch_spelled c = nat_le c.from c.to && nat_le c.to (c.from + 65535)

-- the address behind the instructions of a code that stand before its payloads
abbrev pub front_end : CodeContent → ℕ
front_end c = lines_end 0 (front 0 c.lines)

-- a code as the writer lays it out: instructions one behind the other, then payloads, between which nops are the only
-- instructions; each instruction has a form of its length that its operands other than an index fit, no payload lies further
-- than a distance reaches, and there are at most 65,535 ranges
pub record IsLaid (listed : List ℕ) (c : CodeContent) : Type 0 where
  pub lines : c.lines ≡ front 0 c.lines ++ pad_lines listed (front_end c) (front 0 c.lines)
  pub payloads : IsTrue (list_all (λ (l : LineContent). data_fits l.insn) c.lines)
  pub units : data_end listed (front_end c) (front 0 c.lines) ≡ c.units
  pub near : c.units ≤ 2 ^ 31
  pub forms : IsSome (code_units no_pools listed (front 0 c.lines))
  pub catches : IsTrue (list_all catch_spelled c.catches)
  pub ranges : length (groups_of no_pools c.catches) ≤ 65535

abbrev pub MethodSpelled : Method → Type 0
MethodSpelled m = IfSome m.content.code (IsLaid m.sparse)

pub record IsSpelled (e : Added) : Type 0 where
  pub fields : IsTrue (list_all field_spelled e.class.fields)
  pub codes : All MethodSpelled (added_methods e)
