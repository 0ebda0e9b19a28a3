-- Reading the operands of an instruction and writing its result. What does not fit - a value of another kind, a register
-- that the frame lacks, a pair half outside of it, a reference to the place of a touched literal - is stuck.
-- Restates registers and pairs of the bytecode page; that such a step is stuck is our own.
use Rattle.std.specs.Prelude.{ℕ, zero, ◌+◌, ◌*◌, ◌/◌, ◌%◌, ◌^◌, ◌==◌, nat_lt, List, [], ◌∷◌, length, slice_get, Option, Some, None, Bool, false, if◌then◌else◌, option_map}
use Rattle.std.specs.Int.{w8, w16}
use Rattle.pi_model.specs.declared.insn.Access.{Access}
use Rattle.pi_model.specs.declared.insn.Access.TheVariants as access
use Rattle.pi_model.specs.declared.insn.Kind.{Kind}
use Rattle.pi_model.specs.declared.insn.Kind.TheVariants as kind
use Rattle.pi_model.specs.Arithmetic.{sign_extension}
use Rattle.pi_model.specs.Sizes.{is_reference}
use Rattle.pi_model.specs.Values.{Ref, Value, Word, Low, High, Long, At}
use Rattle.pi_machine.specs.State.{State, Frame}
use Rattle.pi_machine.specs.Objects.{names_thing}
use Rattle.pi_machine.specs.Deeds.{Deed, SetReg, Jump}

-- what a row does: deeds, or none where it is stuck
abbrev pub Deeds : Type 0
Deeds = Option (List Deed)

-- deeds before others
abbrev pub first_do : Deed → Deeds → Deeds
first_do d ds = option_map (λ others. d ∷ others) ds

-- go on with a word
abbrev pub with_word : Option Value → (ℕ → Deeds) → Deeds
with_word None go = None
with_word (Some (Word n)) go = go n
with_word (Some (Low n)) go = None
with_word (Some (High n)) go = None
with_word (Some (Long n)) go = None
with_word (Some (At r)) go = None

-- go on with a long, whose halves stand in two registers
abbrev pub with_long : Option Value → Option Value → (ℕ → Deeds) → Deeds
with_long (Some (Low low)) (Some (High high)) go = go (low + 2 ^ 32 * high)
with_long _ _ go = None

-- a value that is null or names something
abbrev pub is_reference_value : State → Value → Bool
is_reference_value s (Word n) = n == 0
is_reference_value s (At r) = names_thing s r
is_reference_value s (Low n) = false
is_reference_value s (High n) = false
is_reference_value s (Long n) = false

-- go on with a reference, or by the case of null
abbrev pub with_ref : State → Option Value → Deeds → (Ref → Deeds) → Deeds
with_ref s (Some (Word zero)) null go = null
with_ref s (Some (At r)) null go = if names_thing s r then go r else None
with_ref s _ null go = None

-- the value of a register of a frame, where it has that register
abbrev pub register_of : Frame → ℕ → Option Value
register_of f a = slice_get f.registers a

-- a value before others, where all are there
abbrev pub value_list : Option Value → Option (List Value) → Option (List Value)
value_list None rest = None
value_list (Some v) None = None
value_list (Some v) (Some vs) = Some (v ∷ vs)

-- the values of registers in order, where the frame has them all
abbrev pub registers_of : Frame → List ℕ → Option (List Value)
registers_of f [] = Some []
registers_of f (a ∷ others) = value_list (register_of f a) (registers_of f others)

-- go on with the value of a kind at a register, which for a long is two registers
abbrev pub with_operand : State → Frame → Kind → ℕ → (Value → Deeds) → Deeds
with_operand s f kind.Word a go = with_word (register_of f a) (λ n. go (Word n))
with_operand s f kind.Wide a go = with_long (register_of f a) (register_of f (a + 1)) (λ n. go (Long n))
with_operand s f kind.Ref a go = with_ref s (register_of f a) (go (Word 0)) (λ r. go (At r))

-- go on with a value that stands elsewhere than in a register, if it is of the kind
abbrev pub of_kind : Kind → Option Value → (Value → Deeds) → Deeds
of_kind kind.Word v go = with_word v (λ n. go (Word n))
of_kind kind.Wide (Some (Long n)) go = go (Long n)
of_kind kind.Wide _ go = None
of_kind kind.Ref (Some (Word zero)) go = go (Word 0)
of_kind kind.Ref (Some (At r)) go = go (At r)
of_kind kind.Ref _ go = None

-- set a register, or the two of a long, before other deeds
abbrev pub set_word : Frame → ℕ → Value → List Deed → Deeds
set_word f a v others = if nat_lt a (length f.registers) then Some (SetReg a v ∷ others) else None

-- set the two registers of a long before other deeds
abbrev pub set_long : Frame → ℕ → ℕ → List Deed → Deeds
set_long f a n others =
    if nat_lt (a + 1) (length f.registers)
    then Some (SetReg a (Low (n % 2 ^ 32)) ∷ SetReg (a + 1) (High (n / 2 ^ 32)) ∷ others) else None

-- set one register, or the two of a long, before other deeds
abbrev pub set_value : Frame → ℕ → Value → List Deed → Deeds
set_value f a (Long n) others = set_long f a n others
set_value f a (Word n) others = set_word f a (Word n) others
set_value f a (Low n) others = set_word f a (Low n) others
set_value f a (High n) others = set_word f a (High n) others
set_value f a (At r) others = set_word f a (At r) others

-- go on behind the instruction, which has so many units
abbrev pub go_on : Frame → ℕ → List Deed
go_on f units = Jump (f.at + units) ∷ []

-- set a register, or the two of a long, and go on behind the instruction
abbrev pub set_and_go : Frame → ℕ → ℕ → Value → Deeds
set_and_go f units a v = set_value f a v (go_on f units)

-- the kind in a register of what an access carries
abbrev pub kind_of : Access → Kind
kind_of access.Plain = kind.Word
kind_of access.Wide = kind.Wide
kind_of access.Ref = kind.Ref
kind_of access.Bool = kind.Word
kind_of access.Byte = kind.Word
kind_of access.Char = kind.Word
kind_of access.Short = kind.Word

-- an access of that kind fits an array whose component's descriptor begins with that letter
abbrev pub fits_letter : Access → ℕ → Bool
fits_letter access.Plain letter = letter == 73
fits_letter access.Wide letter = letter == 74
fits_letter access.Ref letter = is_reference letter
fits_letter access.Bool letter = letter == 90
fits_letter access.Byte letter = letter == 66
fits_letter access.Char letter = letter == 67
fits_letter access.Short letter = letter == 83

-- What a narrow field or element keeps of a word: its low 8 or 16 bits, extended by the sign for byte and short and by
-- zeros for boolean and char. So a read gives what is kept.
abbrev pub narrow_word : Access → ℕ → ℕ
narrow_word access.Plain n = n
narrow_word access.Wide n = n
narrow_word access.Ref n = n
narrow_word access.Bool n = n % 2 ^ 8
narrow_word access.Byte n = sign_extension w8 8 n
narrow_word access.Char n = n % 2 ^ 16
narrow_word access.Short n = sign_extension w16 16 n

-- what a field or an element holds after a write of a value
abbrev pub stored_value : Access → Value → Value
stored_value k (Word n) = Word (narrow_word k n)
stored_value k (Low n) = Low n
stored_value k (High n) = High n
stored_value k (Long n) = Long n
stored_value k (At r) = At r
