-- Instructions on arrays. An access tests null first, then the index, then the type of an object that is stored.
-- Restates the bytecode page.
use Rattle.std.specs.Prelude.{ℕ, ◌^◌, ◌==◌, ◌&&◌, not, nat_lt, nat_le, List, ◌∷◌, ◌++◌, length, map, replicate, slice_index, Option, Some, None, Bool, true, false, if◌then◌else◌, option_and_then}
use Rattle.std.specs.List.{list_all}
use Rattle.pi_model.specs.declared.numbers.NameNo.{NameNo}
use Rattle.pi_model.specs.declared.insn.Access.{Access}
use Rattle.pi_model.specs.declared.insn.Access.TheVariants as access
use Rattle.pi_model.specs.Program.{Program}
use Rattle.pi_model.specs.Known.{NullPointer, NegativeArraySize, ArrayIndexOutOfBounds, ArrayStore}
use Rattle.pi_model.specs.Texts.{units_of}
use Rattle.pi_model.specs.Sizes.{width_of, is_reference}
use Rattle.pi_model.specs.Values.{Ref, Num, Value, Word, Low, High, Long, At, Array}
use Rattle.pi_machine.specs.State.{State, Frame, Result}
use Rattle.pi_machine.specs.Deeds.{Make, Saw, OfItem, Reads, Writes, SetItem, Hold}
use Rattle.pi_machine.specs.Objects.{Shape, OfArray, shape_at, object_at, item_in}
use Rattle.pi_machine.specs.Operands.{Deeds, first_do, with_word, with_ref, with_operand, of_kind, register_of, registers_of, is_reference_value, set_and_go, go_on, kind_of, fits_letter, stored_value, narrow_word}
use Rattle.pi_machine.specs.Throwing.{throws, next_made}
use Rattle.pi_machine.specs.Natives.{component, fits_component, is_index, sets_items}

-- go on with the number, the type and the length of an array
abbrev pub with_array : Ref → Option Shape → (ℕ → ℕ → ℕ → Deeds) → Deeds
with_array (Num n) (Some (OfArray ty items)) go = go n ty items
with_array r shape go = None

-- the letter with which an array's component begins
abbrev pub item_letter : Program → ℕ → ℕ
item_letter p ty = slice_index (component p ty) 0

-- the length of an array goes into a register
abbrev pub array_length_row : Program → State → Frame → ℕ → ℕ → ℕ → Deeds
array_length_row p s f units a b = with_ref s (register_of f b) (throws p s NullPointer) (λ r.
    with_array r (shape_at p s r) (λ n ty items. set_and_go f units a (Word items)))

-- what an element begins with
abbrev pub first_item : ℕ → Value
first_item letter = if letter == 74 then Long 0 else Word 0

-- a type is one of arrays
abbrev pub is_array : Program → NameNo → Bool
is_array p t = slice_index (units_of p t.0) 0 == 91

-- a new array of so many elements; a negative number throws
abbrev pub new_array_row : Program → State → Frame → ℕ → ℕ → ℕ → NameNo → Deeds
new_array_row p s f units a b t = with_word (register_of f b) (λ n.
    if not (is_array p t) then None else
    if nat_lt n (2 ^ 31)
    then first_do (Make (Array t.0 (replicate n (first_item (item_letter p t.0))))) (set_and_go f units a (At (next_made s)))
    else throws p s NegativeArraySize)

-- an element of ints takes a word, one of references null or a thing; others are not filled from registers
abbrev pub fills : State → ℕ → Value → Bool
fills s letter (Word n) = if letter == 73 then true else is_reference letter && is_reference_value s (Word n)
fills s letter (At r) = is_reference letter && is_reference_value s (At r)
fills s letter (Low n) = false
fills s letter (High n) = false
fills s letter (Long n) = false

-- a new array of the values of registers is held as a result; their types are not tested
abbrev pub filled_array : Program → State → Frame → ℕ → NameNo → List Value → Deeds
filled_array p s f units t values =
    if is_array p t && list_all (fills s (item_letter p t.0)) values
    then Some (Make (Array t.0 values) ∷ Hold (Result (At (next_made s))) ∷ go_on f units) else None

-- a new array of the values of registers, where the frame has them
abbrev pub filled_row : Program → State → Frame → ℕ → NameNo → List ℕ → Deeds
filled_row p s f units t regs = option_and_then (filled_array p s f units t) (registers_of f regs)

-- an item of an array's data as an element whose descriptor begins with that letter
abbrev pub item_value : ℕ → ℕ → Value
item_value letter n =
    if letter == 74 then Long n else
    if letter == 90 then Word (narrow_word access.Bool n) else
    if letter == 66 then Word (narrow_word access.Byte n) else
    if letter == 67 then Word (narrow_word access.Char n) else
    if letter == 83 then Word (narrow_word access.Short n) else Word n

-- an array of primitives of a width takes all items of the data, or none where they are too many
abbrev pub fill_array_row : Program → State → Frame → ℕ → ℕ → ℕ → List ℕ → Deeds
fill_array_row p s f units a width given = with_ref s (register_of f a) (throws p s NullPointer) (λ r.
    with_array r (shape_at p s r) (λ n ty items.
    if is_reference (item_letter p ty) then None else
    if not (width_of (item_letter p ty) == width) then None else
    if nat_le (length given) items then Some (Writes n ∷ sets_items n 0 (map (item_value (item_letter p ty)) given) ++ go_on f units)
    else throws p s ArrayIndexOutOfBounds))

-- an element is read into a register
abbrev pub aget_row : Program → State → Frame → ℕ → Access → ℕ → ℕ → ℕ → Deeds
aget_row p s f units k a b c = with_word (register_of f c) (λ i. with_ref s (register_of f b) (throws p s NullPointer) (λ r.
    with_array r (shape_at p s r) (λ n ty items.
    if not (fits_letter k (item_letter p ty)) then None else
    if is_index i items
    then of_kind (kind_of k) (item_in (object_at p s r) i) (λ v. first_do (Reads n) (first_do (Saw (OfItem r i v)) (set_and_go f units a v)))
    else throws p s ArrayIndexOutOfBounds)))

-- a value may be stored: a reference must fit the component as the array's type names it
abbrev pub may_store : Program → State → Access → ℕ → Value → Bool
may_store p s access.Ref ty v = fits_component p s (component p ty) v
may_store p s access.Plain ty v = true
may_store p s access.Wide ty v = true
may_store p s access.Bool ty v = true
may_store p s access.Byte ty v = true
may_store p s access.Char ty v = true
may_store p s access.Short ty v = true

-- a register is written to an element
abbrev pub aput_row : Program → State → Frame → ℕ → Access → ℕ → ℕ → ℕ → Deeds
aput_row p s f units k a b c = with_word (register_of f c) (λ i. with_operand s f (kind_of k) a (λ v.
    with_ref s (register_of f b) (throws p s NullPointer) (λ r. with_array r (shape_at p s r) (λ n ty items.
    if not (fits_letter k (item_letter p ty)) then None else
    if not (is_index i items) then throws p s ArrayIndexOutOfBounds else
    if may_store p s k ty v then Some (Writes n ∷ SetItem n i (stored_value k v) ∷ go_on f units) else throws p s ArrayStore))))
