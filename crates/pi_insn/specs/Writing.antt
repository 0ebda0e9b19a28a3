-- The units of an instruction.
use Rattle.std.specs.Prelude.{◌≡◌, pos, ℕ, ◌+◌, ◌*◌, ◌/◌, ◌%◌, ◌^◌, ◌≤◌, ◌==◌, nat_lt, List, [], ◌∷◌, slice_index, Option, Some, None, Result, Ok, Err, IsSome, IsSomeAnd, if◌then◌else◌}
use Rattle.std.specs.List.{list_all}
use Rattle.pi_insn.specs.declared.table.Row.{Row}
use Rattle.pi_insn.specs.declared.table.Row.TheVariants.{F10x, F12x, F11n, F11x, F10t, F20t, F22x, F21t, F21s, F21h, F21c, F23x, F22b, F22t, F22s, F22c, F30t, F32x, F31i, F31t, F31c, F35c, F3rc, F51l}
use Rattle.pi_insn.specs.declared.raw.RawInsn.{RawInsn}
use Rattle.pi_insn.specs.declared.raw.RawBody.{RawBody}
use Rattle.pi_insn.specs.declared.raw.RawBody.TheVariants.{Nop, Move, MoveResult, MoveException, ReturnVoid, Return, Const, ConstWide, ConstString, ConstClass, Monitor, CheckCast, InstanceOf, ArrayLength, NewInstance, NewArray, Filled, FillArray, Throw, Goto, Switch, CmpLong, If, IfZ, Aget, Aput, Iget, Iput, Sget, Sput, Invoke, Unary, Binary, BinaryLit}
use Rattle.pi_insn.specs.declared.raw.RawRegs.{RawRegs}
use Rattle.pi_insn.specs.declared.raw.RawRegs.TheVariants.{Few, Run}
use Rattle.pi_insn.specs.declared.fault.EncodeError.{EncodeError}
use Rattle.pi_insn.specs.declared.fault.EncodeError.TheVariants.{OutOfMemory, Range}
use Rattle.pi_insn.specs.Chain.{◌>>=◌}
use Rattle.pi_insn.specs.Numbers.{number_below, bits, short_bits, exact_quotient}
use Rattle.pi_insn.specs.Table.{row_of}
use Rattle.pi_insn.specs.Reading.{body_of}

-- these numbers as units, where each has 16 bits
abbrev pub as_units : List ℕ → Option (List ℕ)
as_units units = if list_all (λ u. nat_lt u 65536) units then Some units else None

-- the first unit of a format with a byte behind the opcode, and of one with two numbers of four bits there
abbrev pub with_byte : ℕ → ℕ → Option ℕ
with_byte op a = number_below 256 a >>= (λ a. Some (op + 256 * a))

abbrev pub with_pair : ℕ → ℕ → ℕ → Option ℕ
with_pair op a b = number_below 16 a >>= (λ a. number_below 16 b >>= (λ b. Some (op + 256 * a + 4096 * b)))

-- a first unit and one more, and a first unit with a 32-bit number
abbrev pub with_unit : Option ℕ → ℕ → Option (List ℕ)
with_unit first b = first >>= (λ u. as_units (u ∷ b ∷ []))

abbrev pub with_word : Option ℕ → ℕ → Option (List ℕ)
with_word first n = first >>= (λ u. as_units (u ∷ n % 65536 ∷ n / 65536 ∷ []))

abbrev pub alone : Option ℕ → Option (List ℕ)
alone first = first >>= (λ u. as_units (u ∷ []))

-- the register of an instruction with one
abbrev pub single_of : RawBody → Option ℕ
single_of (MoveResult k a) = Some a
single_of (MoveException a) = Some a
single_of (Return k a) = Some a
single_of (Monitor a) = Some a
single_of (Throw a) = Some a
single_of _ = None

-- the two registers of an instruction that has no more; a binary operation has two where the first is also an operand
abbrev pub pair_of : RawBody → Option (ℕ × ℕ)
pair_of (Move k a b) = Some (a, b)
pair_of (ArrayLength a b) = Some (a, b)
pair_of (Unary op a b) = Some (a, b)
pair_of (Binary op a b c) = if a == b then Some (a, c) else None
pair_of _ = None

abbrev pub triple_of : RawBody → Option (ℕ × ℕ × ℕ)
triple_of (CmpLong a b c) = Some (a, b, c)
triple_of (Aget k a b c) = Some (a, b, c)
triple_of (Aput k a b c) = Some (a, b, c)
triple_of (Binary op a b c) = Some (a, b, c)
triple_of _ = None

-- the register of a constant and its bits, of which half are so many; the bits of one that is given by its top unit
abbrev pub literal_of : ℕ → RawBody → Option (ℕ × ℕ)
literal_of half (Const a v) = short_bits half (2 ^ 32) v >>= (λ n. Some (a, n))
literal_of half (ConstWide a v) = short_bits half (2 ^ 64) v >>= (λ n. Some (a, n))
literal_of half _ = None

abbrev pub high_of : RawBody → Option (ℕ × ℕ)
high_of (Const a v) = exact_quotient (2 ^ 16) v >>= (λ n. Some (a, n))
high_of (ConstWide a v) = exact_quotient (2 ^ 48) v >>= (λ n. Some (a, n))
high_of _ = None

-- the register and the index of an instruction with these
abbrev pub named_of : RawBody → Option (ℕ × ℕ)
named_of (ConstString a i) = Some (a, i)
named_of (ConstClass a i) = Some (a, i)
named_of (CheckCast a i) = Some (a, i)
named_of (NewInstance a i) = Some (a, i)
named_of (Sget k a i) = Some (a, i)
named_of (Sput k a i) = Some (a, i)
named_of _ = None

abbrev pub named_pair_of : RawBody → Option (ℕ × ℕ × ℕ)
named_pair_of (InstanceOf a b i) = Some (a, b, i)
named_pair_of (NewArray a b i) = Some (a, b, i)
named_pair_of (Iget k a b i) = Some (a, b, i)
named_pair_of (Iput k a b i) = Some (a, b, i)
named_pair_of _ = None

-- the register and the bits of the distance of an instruction with these; half of them are so many
abbrev pub payload_of : ℕ → RawBody → Option (ℕ × ℕ)
payload_of half (FillArray a dist) = bits half dist >>= (λ n. Some (a, n))
payload_of half (Switch a dist) = bits half dist >>= (λ n. Some (a, n))
payload_of half _ = None

abbrev pub goto_of : ℕ → RawBody → Option ℕ
goto_of half (Goto dist) = bits half dist
goto_of half _ = None

abbrev pub test_of : ℕ → RawBody → Option (ℕ × ℕ)
test_of half (IfZ cond a dist) = bits half dist >>= (λ n. Some (a, n))
test_of half _ = None

abbrev pub compare_of : ℕ → RawBody → Option (ℕ × ℕ × ℕ)
compare_of half (If cond a b dist) = bits half dist >>= (λ n. Some (a, b, n))
compare_of half _ = None

-- the registers and the bits of an operation with a literal
abbrev pub with_literal_of : ℕ → RawBody → Option (ℕ × ℕ × ℕ)
with_literal_of half (BinaryLit op a b v) = short_bits half (2 ^ 32) v >>= (λ n. Some (a, b, n))
with_literal_of half _ = None

-- the index and the registers of an instruction that names several
abbrev pub listing_of : RawBody → Option (ℕ × RawRegs)
listing_of (Filled i regs) = Some (i, regs)
listing_of (Invoke how i regs) = Some (i, regs)
listing_of _ = None

-- the units of at most five registers: their number and the fifth stand behind the opcode, the first four in a unit
abbrev pub few_of : ℕ → ℕ → ℕ → List ℕ → Option (List ℕ)
few_of op i n (c ∷ d ∷ e ∷ f ∷ g ∷ []) =
    number_below 6 n >>= (λ n. number_below 16 c >>= (λ c. number_below 16 d >>= (λ d. number_below 16 e >>= (λ e.
    number_below 16 f >>= (λ f. number_below 16 g >>= (λ g.
    as_units ((op + 256 * (g + 16 * n)) ∷ i ∷ (c + 16 * d + 256 * e + 4096 * f) ∷ [])))))))
few_of op i n _ = None

abbrev pub few_units : ℕ → ℕ → RawRegs → Option (List ℕ)
few_units op i (Few n regs) = few_of op i n regs
few_units op i (Run first n) = None

-- the units of registers in a row
abbrev pub run_units : ℕ → ℕ → RawRegs → Option (List ℕ)
run_units op i (Run first n) = with_byte op n >>= (λ u. as_units (u ∷ i ∷ first ∷ []))
run_units op i _ = None

-- a 64-bit number behind a first unit
abbrev pub with_long : Option ℕ → ℕ → Option (List ℕ)
with_long first n = first >>= (λ u. as_units (u ∷ n % 65536 ∷ n / 65536 % 65536 ∷ n / 4294967296 % 65536 ∷ n / 281474976710656 ∷ []))

-- The units of operands, where each fits: one unit, with a byte or two numbers of four bits behind the opcode; one more
-- unit behind that; a 32-bit number behind it; and so on. Formats differ in where the operands come from.
abbrev pub byte_alone : ℕ → Option ℕ → Option (List ℕ)
byte_alone op operand = operand >>= (λ a. alone (with_byte op a))

abbrev pub pair_alone : ℕ → Option (ℕ × ℕ) → Option (List ℕ)
pair_alone op operands = operands >>= (λ p. alone (with_pair op p.0 p.1))

abbrev pub unit_behind : ℕ → Option ℕ → Option (List ℕ)
unit_behind op operand = operand >>= (λ n. with_unit (Some op) n)

abbrev pub byte_and_unit : ℕ → Option (ℕ × ℕ) → Option (List ℕ)
byte_and_unit op operands = operands >>= (λ p. with_unit (with_byte op p.0) p.1)

abbrev pub pair_and_unit : ℕ → Option (ℕ × ℕ × ℕ) → Option (List ℕ)
pair_and_unit op operands = operands >>= (λ p. with_unit (with_pair op p.0 p.1) p.2)

abbrev pub three_bytes : ℕ → Option (ℕ × ℕ × ℕ) → Option (List ℕ)
three_bytes op operands = operands >>= (λ p. with_byte op p.0 >>= (λ u.
    number_below 256 p.1 >>= (λ b. number_below 256 p.2 >>= (λ c. as_units (u ∷ (b + 256 * c) ∷ [])))))

abbrev pub two_units_behind : ℕ → Option (ℕ × ℕ) → Option (List ℕ)
two_units_behind op operands = operands >>= (λ p. as_units (op ∷ p.0 ∷ p.1 ∷ []))

abbrev pub word_behind : ℕ → Option ℕ → Option (List ℕ)
word_behind op operand = operand >>= (λ n. with_word (Some op) n)

abbrev pub byte_and_word : ℕ → Option (ℕ × ℕ) → Option (List ℕ)
byte_and_word op operands = operands >>= (λ p. with_word (with_byte op p.0) p.1)

abbrev pub units_35c : ℕ → RawBody → Option (List ℕ)
units_35c op body = listing_of body >>= (λ p. few_units op p.0 p.1)

abbrev pub units_3rc : ℕ → RawBody → Option (List ℕ)
units_3rc op body = listing_of body >>= (λ p. run_units op p.0 p.1)

abbrev pub units_51l : ℕ → RawBody → Option (List ℕ)
units_51l op (ConstWide a v) = with_long (with_byte op a) v
units_51l op _ = None

-- the units of a row's instruction
abbrev pub units_by : Row → ℕ → RawBody → Option (List ℕ)
units_by (F10x w) op body = as_units (op ∷ [])
units_by (F12x w) op body = pair_alone op (pair_of body)
units_by F11n op body = pair_alone op (literal_of 8 body)
units_by (F11x w) op body = byte_alone op (single_of body)
units_by F10t op body = byte_alone op (goto_of 128 body)
units_by F20t op body = unit_behind op (goto_of 32768 body)
units_by (F22x k) op body = byte_and_unit op (pair_of body)
units_by (F21t c) op body = byte_and_unit op (test_of 32768 body)
units_by (F21s w) op body = byte_and_unit op (literal_of 32768 body)
units_by (F21h w) op body = byte_and_unit op (high_of body)
units_by (F21c w) op body = byte_and_unit op (named_of body)
units_by (F23x w) op body = three_bytes op (triple_of body)
units_by (F22b k) op body = three_bytes op (with_literal_of 128 body)
units_by (F22t c) op body = pair_and_unit op (compare_of 32768 body)
units_by (F22s k) op body = pair_and_unit op (with_literal_of 32768 body)
units_by (F22c w) op body = pair_and_unit op (named_pair_of body)
units_by F30t op body = word_behind op (goto_of 2147483648 body)
units_by (F32x k) op body = two_units_behind op (pair_of body)
units_by (F31i w) op body = byte_and_word op (literal_of 2147483648 body)
units_by (F31t w) op body = byte_and_word op (payload_of 2147483648 body)
units_by F31c op body = byte_and_word op (named_of body)
units_by (F35c w) op body = units_35c op body
units_by (F3rc w) op body = units_3rc op body
units_by F51l op body = units_51l op body

abbrev pub units_where : Option Row → ℕ → RawBody → Option (List ℕ)
units_where None op body = None
units_where (Some row) op body = units_by row op body

-- the units of an instruction, where each operand fits the format of its opcode
unfoldable pub encoding : RawInsn → Option (List ℕ)
encoding i = units_where (row_of i.op) i.op i.body

abbrev pub zero_regs : RawRegs → RawRegs
zero_regs (Few n regs) = Few 0 (0 ∷ 0 ∷ 0 ∷ 0 ∷ 0 ∷ [])
zero_regs (Run first n) = Run 0 0

-- the instruction with each operand 0: what is left is which it is, with its kind, condition, way of invoking or
-- operation, and whether it names registers one by one or in a row
abbrev pub without_operands : RawBody → RawBody
without_operands Nop = Nop
without_operands (Move k a b) = Move k 0 0
without_operands (MoveResult k a) = MoveResult k 0
without_operands (MoveException a) = MoveException 0
without_operands ReturnVoid = ReturnVoid
without_operands (Return k a) = Return k 0
without_operands (Const a v) = Const 0 0
without_operands (ConstWide a v) = ConstWide 0 0
without_operands (ConstString a i) = ConstString 0 0
without_operands (ConstClass a i) = ConstClass 0 0
without_operands (Monitor a) = Monitor 0
without_operands (CheckCast a i) = CheckCast 0 0
without_operands (InstanceOf a b i) = InstanceOf 0 0 0
without_operands (ArrayLength a b) = ArrayLength 0 0
without_operands (NewInstance a i) = NewInstance 0 0
without_operands (NewArray a b i) = NewArray 0 0 0
without_operands (Filled i regs) = Filled 0 (zero_regs regs)
without_operands (FillArray a dist) = FillArray 0 (pos 0)
without_operands (Throw a) = Throw 0
without_operands (Goto dist) = Goto (pos 0)
without_operands (Switch a dist) = Switch 0 (pos 0)
without_operands (CmpLong a b c) = CmpLong 0 0 0
without_operands (If cond a b dist) = If cond 0 0 (pos 0)
without_operands (IfZ cond a dist) = IfZ cond 0 (pos 0)
without_operands (Aget k a b c) = Aget k 0 0 0
without_operands (Aput k a b c) = Aput k 0 0 0
without_operands (Iget k a b i) = Iget k 0 0 0
without_operands (Iput k a b i) = Iput k 0 0 0
without_operands (Sget k a i) = Sget k 0 0
without_operands (Sput k a i) = Sput k 0 0
without_operands (Invoke how i regs) = Invoke how 0 (zero_regs regs)
without_operands (Unary op a b) = Unary op 0 0
without_operands (Binary op a b c) = Binary op 0 0 0
without_operands (BinaryLit op a b v) = BinaryLit op 0 0 0

-- registers named one by one are at most five, with 0 in the places behind them
abbrev pub AreFew : RawRegs → Type 0
AreFew (Few n regs) = (n ≤ 5) × ((i : ℕ) → n ≤ i → slice_index regs i ≡ 0)
AreFew (Run first n) = Unit {0}

abbrev pub NamesFew : RawBody → Type 0
NamesFew (Filled i regs) = AreFew regs
NamesFew (Invoke how i regs) = AreFew regs
NamesFew _ = Unit {0}

-- The opcode is one that the table gives to this instruction with its kind, condition, way of invoking or operation:
-- what reading says of the row is the same but for the operands. Registers named one by one are at most five.
pub record IsInTable (i : RawInsn) : Type 0 where
  pub listed : IsSomeAnd (row_of i.op) (λ row. without_operands i.body ≡ without_operands (body_of row 0 []))
  pub registers : NamesFew i.body

-- what writing answers: the units, or that an operand does not fit; want of memory only where all fit
abbrev pub Writes : Option (List ℕ) → Result (List ℕ) EncodeError → Type 0
Writes units (Ok list) = units ≡ Some list
Writes units (Err Range) = units ≡ None
Writes units (Err OutOfMemory) = IsSome units
