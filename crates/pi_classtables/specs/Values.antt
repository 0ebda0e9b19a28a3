-- The values of static fields: for each field up to the last one that is set, the value that sets it so.
use Rattle.std.specs.Prelude.{ℕ, ◌%◌, ◌^◌, ◌&&◌, nat_lt, List, [], ◌∷◌, map, is_some, if◌then◌else◌}
use Rattle.std.specs.List.{list_any}
use Rattle.pi_insn.specs.Numbers.{short_bits}
use Rattle.pi_format.specs.Rules.Descriptors.{begins_with}
use Rattle.pi_dextables.specs.declared.tables.Value.{Value}
use Rattle.pi_contents.specs.Contents.{InitContent, NoInit, WordInit, LongInit, TextInit, TypeInit, FieldContent}
use Rattle.pi_contents.specs.Asked.{has_init}
use Rattle.pi_classtables.specs.Numbers.{Pools, string_no, type_no}

abbrev pub value : ℕ → ℕ → ℕ → Value
value kind arg number = record { kind = kind; arg = arg; number = number }

-- nothing, by the first letter of the type: zero, false or null
abbrev pub empty_value : List ℕ → Value
empty_value t =
    if begins_with 66 t then value 0x00 0 0 else
    if begins_with 83 t then value 0x02 1 0 else
    if begins_with 67 t then value 0x03 1 0 else
    if begins_with 73 t then value 0x04 3 0 else
    if begins_with 74 t then value 0x06 7 0 else
    if begins_with 90 t then value 0x1f 0 0 else value 0x1e 0 0

-- a number of 32 bits: in the bytes that the type has, where it fits these, and else as an int
abbrev pub word_value : List ℕ → ℕ → Value
word_value t w =
    if begins_with 66 t && is_some (short_bits 128 (2 ^ 32) w) then value 0x00 0 (w % 256) else
    if begins_with 83 t && is_some (short_bits 32768 (2 ^ 32) w) then value 0x02 1 (w % 65536) else
    if begins_with 67 t && nat_lt w 65536 then value 0x03 1 w else
    if begins_with 90 t && nat_lt w 2 then value 0x1f w 0 else value 0x04 3 w

unfoldable pub value_of : Pools → List ℕ → InitContent → Value
value_of p t NoInit = empty_value t
value_of p t (WordInit w) = word_value t w
value_of p t (LongInit l) = value 0x06 7 l
value_of p t (TextInit s) = value 0x17 3 (string_no p s)
value_of p t (TypeInit u) = value 0x18 3 (type_no p u)

-- the fields up to the last one that is set
abbrev pub set_fields : List FieldContent → List FieldContent
set_fields [] = []
set_fields (f ∷ fs) = if list_any (λ (g : FieldContent). has_init g.init) (f ∷ fs) then f ∷ set_fields fs else []

abbrev pub values_of : Pools → List FieldContent → List Value
values_of p fields = map (λ (f : FieldContent). value_of p f.ty f.init) (set_fields fields)
