-- What must hold of values and codes of tables so that a file that says them keeps X19 to X23. What the rules X13 to X18 ask
-- is asked of the contents.
use Rattle.std.specs.Prelude.{◌≡◌, ℕ, ◌+◌, ◌==◌, ◌&&◌, nat_lt, nat_le, codes, List, [], ◌∷◌, ◌++◌, length, Option, Some, None, Bool, true, false, if◌then◌else◌}
use Rattle.std.specs.List.{list_all}
use Rattle.pi_model.specs.Texts.{same_text}
use Rattle.pi_format.specs.Rules.Descriptors.{begins_with}
use Rattle.pi_format.specs.Rules.Pieces.{first_insn, points_well, walk}
use Rattle.pi_dextables.specs.declared.tables.Body.{Body}
use Rattle.pi_dextables.specs.declared.tables.Catch.{Catch}
use Rattle.pi_dextables.specs.declared.tables.Catches.{Catches}
use Rattle.pi_dextables.specs.declared.tables.Class.{Class}
use Rattle.pi_dextables.specs.declared.tables.FieldRow.{FieldRow}
use Rattle.pi_dextables.specs.declared.tables.MethodRow.{MethodRow}
use Rattle.pi_dextables.specs.declared.tables.Range.{Range}
use Rattle.pi_dextables.specs.declared.tables.Tables.{Tables}
use Rattle.pi_dextables.specs.declared.tables.Value.{Value}
use Rattle.pi_contents.specs.Asked.{argument_words, is_reference}
use Rattle.pi_tablesaid.specs.Entries.{type_at, field_at}
use Rattle.pi_tablesaid.specs.Content.{method_said}

-- a value fits a field of a type: of the kind that its type asks for, with as many bytes, and what it names is there
unfoldable pub value_holds : Tables → List ℕ → Value → Bool
value_holds t ty v =
    if v.kind == 0x00 then begins_with 66 ty && nat_lt v.arg 1 else
    if v.kind == 0x02 then begins_with 83 ty && nat_lt v.arg 2 else
    if v.kind == 0x03 then begins_with 67 ty && nat_lt v.arg 2 else
    if v.kind == 0x04 then begins_with 73 ty && nat_lt v.arg 4 else
    if v.kind == 0x06 then begins_with 74 ty && nat_lt v.arg 8 else
    if v.kind == 0x1f then begins_with 90 ty && nat_lt v.arg 2 else
    if v.kind == 0x17 then
    same_text (codes "Ljava/lang/String;") ty && (nat_lt v.arg 4 && nat_lt v.number (length t.strings)) else
    if v.kind == 0x18 then
    same_text (codes "Ljava/lang/Class;") ty
    && (nat_lt v.arg 4 && (nat_lt v.number (length t.types) && is_reference (type_at t v.number))) else
    if v.kind == 0x1e then is_reference ty && (v.arg == 0) else false

-- values fit the first static fields, one each
abbrev pub values_hold : Tables → List FieldRow → List Value → Bool
values_hold t fields [] = true
values_hold t [] (v ∷ vs) = false
values_hold t (f ∷ fs) (v ∷ vs) = value_holds t (field_at t f.id).ty v && values_hold t fs vs

abbrev pub class_values_hold : Tables → Class → Bool
class_values_hold t c = values_hold t c.statics c.values

-- ranges end in the code, each begins no earlier than the one before it ends, and handlers stand in the code
abbrev pub range_end : Range → ℕ
range_end r = r.from + r.size

abbrev pub ranges_lie : ℕ → ℕ → List Range → Bool
ranges_lie units before [] = true
ranges_lie units before (r ∷ rs) = nat_le before r.from && (nat_le (range_end r) units && ranges_lie units (range_end r) rs)

abbrev pub last_stands : ℕ → Option ℕ → Bool
last_stands units None = true
last_stands units (Some to) = nat_lt to units

abbrev pub handlers_stand : ℕ → Catches → Bool
handlers_stand units l = list_all (λ (h : Catch). nat_lt h.to units) l.typed && last_stands units l.last

abbrev pub body_holds : ℕ → Option Body → Bool
body_holds words None = true
body_holds words (Some b) =
    (b.ins == words) && (nat_le words b.registers && (nat_lt 0 (length b.units)
    && (ranges_lie (length b.units) 0 b.ranges && list_all (handlers_stand (length b.units)) b.lists)))

abbrev pub method_holds : Tables → MethodRow → Bool
method_holds t m = body_holds (argument_words (method_said t m)) m.code

abbrev pub class_codes_hold : Tables → Class → Bool
class_codes_hold t c = list_all (method_holds t) (c.directs ++ c.virtuals)

-- instructions and payloads stand one behind the other with no rest, and what points at a payload points at one that fits
abbrev pub WalkEnds : Body → Type 0
WalkEnds b = (walk b.units).stop ≡ None

abbrev pub PointsWell : Body → Type 0
PointsWell b = first_insn (points_well (walk b.units).pieces) (walk b.units).pieces ≡ None
