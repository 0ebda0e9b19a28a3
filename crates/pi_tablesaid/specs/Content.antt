-- What tables say: the contents of their classes, in order.
use Rattle.std.specs.Prelude.{ℕ, ◌+◌, ◌*◌, ◌^◌, ◌==◌, ◌||◌, List, [], ◌∷◌, ◌++◌, length, map, flat_map, Option, Some, None, option_map, slice_index_or, if◌then◌else◌}
use Rattle.pi_model.specs.declared.insn.Insn.{Insn}
use Rattle.pi_insn.specs.declared.raw.RawBody.{RawBody}
use Rattle.pi_insn.specs.declared.raw.RawBody.TheVariants.{ConstString, ConstClass, CheckCast, InstanceOf, NewInstance, NewArray, Filled, Iget, Iput, Sget, Sput, Invoke}
use Rattle.pi_insn.specs.Numbers.{signed_extension}
use Rattle.pi_format.specs.Rules.Pieces.{Piece, What, Instruction, Payload, walk}
use Rattle.pi_format.specs.Says.Insns.{insn_of}
use Rattle.pi_format.specs.Says.Names.{Named}
use Rattle.pi_dextables.specs.declared.tables.Body.{Body}
use Rattle.pi_dextables.specs.declared.tables.Catch.{Catch}
use Rattle.pi_dextables.specs.declared.tables.Catches.{Catches}
use Rattle.pi_dextables.specs.declared.tables.Class.{Class}
use Rattle.pi_dextables.specs.declared.tables.FieldRow.{FieldRow}
use Rattle.pi_dextables.specs.declared.tables.MethodRow.{MethodRow}
use Rattle.pi_dextables.specs.declared.tables.Range.{Range}
use Rattle.pi_dextables.specs.declared.tables.Tables.{Tables}
use Rattle.pi_dextables.specs.declared.tables.Value.{Value}
use Rattle.pi_contents.specs.Contents.{Naming, NoName, OfText, OfType, OfField, OfMethod, LineContent, CatchContent, CodeContent, InitContent, NoInit, WordInit, LongInit, TextInit, TypeInit, FieldContent, MethodContent, ClassContent}
use Rattle.pi_contents.specs.Named.{bare}
use Rattle.pi_tablesaid.specs.Entries.{text_at, type_at, field_at, method_at}

-- what an instruction of a file names
unfoldable pub naming_said : Tables → RawBody → Naming
naming_said t (ConstString a s) = OfText (text_at t s)
naming_said t (ConstClass a i) = OfType (type_at t i)
naming_said t (CheckCast a i) = OfType (type_at t i)
naming_said t (InstanceOf a b i) = OfType (type_at t i)
naming_said t (NewInstance a i) = OfType (type_at t i)
naming_said t (NewArray a b i) = OfType (type_at t i)
naming_said t (Filled i regs) = OfType (type_at t i)
naming_said t (Iget kind a b f) = OfField (field_at t f)
naming_said t (Iput kind a b f) = OfField (field_at t f)
naming_said t (Sget kind a f) = OfField (field_at t f)
naming_said t (Sput kind a f) = OfField (field_at t f)
naming_said t (Invoke how m regs) = OfMethod (method_at t m)
naming_said t _ = NoName

-- the instruction at an address, among the pieces of its code, without names: what the format says where nothing has one
abbrev pub unnamed : Named
unnamed = record { file = []; numbers = [] }

abbrev pub insn_said : List Piece → ℕ → RawBody → Insn
insn_said pieces at body = bare (insn_of unnamed pieces at body)

-- the line of a piece; payloads are no lines
abbrev pub line_said : Tables → List Piece → Piece → List LineContent
line_said t pieces p = by_what t pieces p p.what
  where
    by_what : Tables → List Piece → Piece → What → List LineContent
    by_what t pieces p (Payload d) = []
    by_what t pieces p (Instruction i) =
        record { at = p.at; units = p.units; insn = insn_said pieces p.at i.body; naming = naming_said t i.body } ∷ []

unfoldable pub lines_said : Tables → List ℕ → List LineContent
lines_said t units = flat_map (line_said t (walk units).pieces) (walk units).pieces

-- the entries of a range: those that catch a type, then the one that catches the rest
abbrev pub typed_said : Tables → Range → Catch → CatchContent
typed_said t r h = record { from = r.from; to = r.from + r.size; ty = Some (type_at t h.ty); at = h.to }

abbrev pub last_said : Range → Option ℕ → List CatchContent
last_said r None = []
last_said r (Some to) = record { from = r.from; to = r.from + r.size; ty = None; at = to } ∷ []

abbrev pub list_said : Tables → Range → Catches → List CatchContent
list_said t r l = map (typed_said t r) l.typed ++ last_said r l.last

abbrev pub no_catches : Catches
no_catches = record { typed = []; last = None }

abbrev pub range_said : Tables → List Catches → Range → List CatchContent
range_said t lists r = list_said t r (slice_index_or lists r.list no_catches)

unfoldable pub code_said : Tables → Body → CodeContent
code_said t b = record {
  regs = b.registers;
  ins = b.ins;
  outs = b.outs;
  units = length b.units;
  lines = lines_said t b.units;
  catches = flat_map (range_said t b.lists) b.ranges;
}

-- what a value sets a field to: 0 is as no value, and numbers are extended by their sign from the bytes that they have
abbrev pub word_said : ℕ → InitContent
word_said n = if n == 0 then NoInit else WordInit n

abbrev pub long_said : ℕ → InitContent
long_said n = if n == 0 then NoInit else LongInit n

abbrev pub signed_said : ℕ → Value → ℕ
signed_said range v = signed_extension (2 ^ (8 * v.arg + 7)) range v.number

unfoldable pub init_said : Tables → Value → InitContent
init_said t v =
    if v.kind == 0x00 || (v.kind == 0x02 || v.kind == 0x04) then word_said (signed_said (2 ^ 32) v) else
    if v.kind == 0x03 then word_said v.number else
    if v.kind == 0x06 then long_said (signed_said (2 ^ 64) v) else
    if v.kind == 0x1f then word_said v.arg else
    if v.kind == 0x17 then TextInit (text_at t v.number) else
    if v.kind == 0x18 then TypeInit (type_at t v.number) else NoInit

-- the members of a class: static fields with the values that are given, and then the others
abbrev pub field_said : Tables → InitContent → FieldRow → FieldContent
field_said t init f = record { name = (field_at t f.id).name; ty = (field_at t f.id).ty; flags = f.flags; init = init }

abbrev pub statics_said : Tables → List FieldRow → List Value → List FieldContent
statics_said t [] values = []
statics_said t (f ∷ fs) [] = field_said t NoInit f ∷ statics_said t fs []
statics_said t (f ∷ fs) (v ∷ vs) = field_said t (init_said t v) f ∷ statics_said t fs vs

abbrev pub method_said : Tables → MethodRow → MethodContent
method_said t m = record {
  name = (method_at t m.id).name;
  proto = (method_at t m.id).proto;
  flags = m.flags;
  code = option_map (code_said t) m.code;
}

unfoldable pub class_said : Tables → Class → ClassContent
class_said t c = record {
  name = type_at t c.class;
  flags = c.flags;
  parent = option_map (type_at t) c.parent;
  faces = map (type_at t) c.faces;
  fields = statics_said t c.statics c.values ++ map (field_said t NoInit) c.instances;
  methods = map (method_said t) (c.directs ++ c.virtuals);
}

abbrev pub content_of : Tables → List ClassContent
content_of t = map (class_said t) t.classes
