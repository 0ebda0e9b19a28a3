-- The forms of an instruction: the operands that a file can give it, the opcodes that the table has for these, and the units
-- of the first form of a length that the operands fit.
use Rattle.std.specs.Prelude.{ℕ, ◌+◌, ◌-◌, ◌*◌, ◌%◌, ◌^◌, ◌==◌, nat_le, ℤ, List, [], ◌∷◌, ◌++◌, length, map, slice_index, Option, Some, None, Bool, if◌then◌else◌}
use Rattle.pi_model.specs.declared.insn.Access.{Access}
use Rattle.pi_model.specs.declared.insn.Access.TheVariants as access
use Rattle.pi_model.specs.declared.insn.Arith.{Arith}
use Rattle.pi_model.specs.declared.insn.Arith.TheVariants.{Int, Long}
use Rattle.pi_model.specs.declared.insn.BinOp.{BinOp}
use Rattle.pi_model.specs.declared.insn.BinOp.TheVariants.{Add, Sub, Rsub, Mul, Div, Rem, And, Or, Xor, Shl, Shr, Ushr}
use Rattle.pi_model.specs.declared.insn.Cond.{Cond}
use Rattle.pi_model.specs.declared.insn.Cond.TheVariants.{Eq, Ne, Lt, Ge, Gt, Le}
use Rattle.pi_model.specs.declared.insn.How.{How}
use Rattle.pi_model.specs.declared.insn.How.TheVariants.{Virtual, Super, Direct, Static, Interface}
use Rattle.pi_model.specs.declared.insn.Insn.{Insn}
use Rattle.pi_model.specs.declared.insn.Insn.TheVariants as insn
use Rattle.pi_model.specs.declared.insn.Kind.{Kind}
use Rattle.pi_model.specs.declared.insn.Kind.TheVariants as kind
use Rattle.pi_model.specs.declared.insn.UnOp.{UnOp}
use Rattle.pi_model.specs.declared.insn.UnOp.TheVariants.{NegInt, NotInt, NegLong, NotLong, IntToLong, LongToInt, IntToByte, IntToChar, IntToShort}
use Rattle.pi_model.specs.Registers.{registers_in_row, places_of}
use Rattle.pi_model.specs.Texts.{same_text}
use Rattle.pi_insn.specs.declared.raw.RawBody.{RawBody}
use Rattle.pi_insn.specs.declared.raw.RawBody.TheVariants.{Nop, Move, MoveResult, MoveException, ReturnVoid, Return, Const, ConstWide, ConstString, ConstClass, Monitor, CheckCast, InstanceOf, ArrayLength, NewInstance, NewArray, Filled, FillArray, Throw, Goto, Switch, CmpLong, If, IfZ, Aget, Aput, Iget, Iput, Sget, Sput, Invoke, Unary, Binary, BinaryLit}
use Rattle.pi_insn.specs.declared.raw.RawRegs.{RawRegs}
use Rattle.pi_insn.specs.declared.raw.RawRegs.TheVariants.{Few, Run}
use Rattle.pi_insn.specs.Numbers.{signed_number}
use Rattle.pi_insn.specs.Writing.{encoding}

-- the place of a kind, an access, a condition, a way of invoking and an operation among those that opcodes stand for in a row
abbrev pub kind_place : Kind → ℕ
kind_place kind.Word = 0
kind_place kind.Wide = 1
kind_place kind.Ref = 2

abbrev pub access_place : Access → ℕ
access_place access.Plain = 0
access_place access.Wide = 1
access_place access.Ref = 2
access_place access.Bool = 3
access_place access.Byte = 4
access_place access.Char = 5
access_place access.Short = 6

abbrev pub cond_place : Cond → ℕ
cond_place Eq = 0
cond_place Ne = 1
cond_place Lt = 2
cond_place Ge = 3
cond_place Gt = 4
cond_place Le = 5

abbrev pub how_place : How → ℕ
how_place Virtual = 0
how_place Super = 1
how_place Direct = 2
how_place Static = 3
how_place Interface = 4

-- no opcode subtracts the first operand from the second, but with a literal
abbrev pub operation_place : BinOp → Option ℕ
operation_place Add = Some 0
operation_place Sub = Some 1
operation_place Rsub = None
operation_place Mul = Some 2
operation_place Div = Some 3
operation_place Rem = Some 4
operation_place And = Some 5
operation_place Or = Some 6
operation_place Xor = Some 7
operation_place Shl = Some 8
operation_place Shr = Some 9
operation_place Ushr = Some 10

-- with a literal of 8 bits there are all but subtraction, with one of 16 bits no shift either
abbrev pub literal_opcodes : BinOp → List ℕ
literal_opcodes Add = 0xd0 ∷ 0xd8 ∷ []
literal_opcodes Sub = []
literal_opcodes Rsub = 0xd1 ∷ 0xd9 ∷ []
literal_opcodes Mul = 0xd2 ∷ 0xda ∷ []
literal_opcodes Div = 0xd3 ∷ 0xdb ∷ []
literal_opcodes Rem = 0xd4 ∷ 0xdc ∷ []
literal_opcodes And = 0xd5 ∷ 0xdd ∷ []
literal_opcodes Or = 0xd6 ∷ 0xde ∷ []
literal_opcodes Xor = 0xd7 ∷ 0xdf ∷ []
literal_opcodes Shl = 0xe0 ∷ []
literal_opcodes Shr = 0xe1 ∷ []
literal_opcodes Ushr = 0xe2 ∷ []

abbrev pub unary_opcode : UnOp → ℕ
unary_opcode NegInt = 0x7b
unary_opcode NotInt = 0x7c
unary_opcode NegLong = 0x7d
unary_opcode NotLong = 0x7e
unary_opcode IntToLong = 0x81
unary_opcode LongToInt = 0x84
unary_opcode IntToByte = 0x8d
unary_opcode IntToChar = 0x8e
unary_opcode IntToShort = 0x8f

-- an operation has a form with three registers and one in which the first is also an operand
abbrev pub operation_opcodes : ℕ → ℕ → Option ℕ → List ℕ
operation_opcodes three two None = []
operation_opcodes three two (Some place) = (two + place) ∷ (three + place) ∷ []

abbrev pub binary_opcodes : Arith → List ℕ
binary_opcodes (Int op) = operation_opcodes 0x90 0xb0 (operation_place op)
binary_opcodes (Long op) = operation_opcodes 0x9b 0xbb (operation_place op)

abbrev pub listing_opcode : ℕ → ℕ → RawRegs → List ℕ
listing_opcode few run (Few n regs) = few ∷ []
listing_opcode few run (Run first n) = run ∷ []

-- the opcodes of an instruction with such operands; a switch says whether its payload is sparse
unfoldable pub opcodes_of : Bool → RawBody → List ℕ
opcodes_of sparse Nop = 0x00 ∷ []
opcodes_of sparse (Move k a b) = (3 * kind_place k + 1) ∷ (3 * kind_place k + 2) ∷ (3 * kind_place k + 3) ∷ []
opcodes_of sparse (MoveResult k a) = (0x0a + kind_place k) ∷ []
opcodes_of sparse (MoveException a) = 0x0d ∷ []
opcodes_of sparse ReturnVoid = 0x0e ∷ []
opcodes_of sparse (Return k a) = (0x0f + kind_place k) ∷ []
opcodes_of sparse (Const a v) = 0x12 ∷ 0x13 ∷ 0x15 ∷ 0x14 ∷ []
opcodes_of sparse (ConstWide a v) = 0x16 ∷ 0x19 ∷ 0x17 ∷ 0x18 ∷ []
opcodes_of sparse (ConstString a i) = 0x1a ∷ 0x1b ∷ []
opcodes_of sparse (ConstClass a i) = 0x1c ∷ []
opcodes_of sparse (Monitor a) = 0x1d ∷ []
opcodes_of sparse (CheckCast a i) = 0x1f ∷ []
opcodes_of sparse (InstanceOf a b i) = 0x20 ∷ []
opcodes_of sparse (ArrayLength a b) = 0x21 ∷ []
opcodes_of sparse (NewInstance a i) = 0x22 ∷ []
opcodes_of sparse (NewArray a b i) = 0x23 ∷ []
opcodes_of sparse (Filled i regs) = listing_opcode 0x24 0x25 regs
opcodes_of sparse (FillArray a dist) = 0x26 ∷ []
opcodes_of sparse (Throw a) = 0x27 ∷ []
opcodes_of sparse (Goto dist) = 0x28 ∷ 0x29 ∷ 0x2a ∷ []
opcodes_of sparse (Switch a dist) = (if sparse then 0x2c else 0x2b) ∷ []
opcodes_of sparse (CmpLong a b c) = 0x31 ∷ []
opcodes_of sparse (If cond a b dist) = (0x32 + cond_place cond) ∷ []
opcodes_of sparse (IfZ cond a dist) = (0x38 + cond_place cond) ∷ []
opcodes_of sparse (Aget k a b c) = (0x44 + access_place k) ∷ []
opcodes_of sparse (Aput k a b c) = (0x4b + access_place k) ∷ []
opcodes_of sparse (Iget k a b i) = (0x52 + access_place k) ∷ []
opcodes_of sparse (Iput k a b i) = (0x59 + access_place k) ∷ []
opcodes_of sparse (Sget k a i) = (0x60 + access_place k) ∷ []
opcodes_of sparse (Sput k a i) = (0x67 + access_place k) ∷ []
opcodes_of sparse (Invoke how i regs) = listing_opcode (0x6e + how_place how) (0x74 + how_place how) regs
opcodes_of sparse (Unary op a b) = unary_opcode op ∷ []
opcodes_of sparse (Binary op a b c) = binary_opcodes op
opcodes_of sparse (BinaryLit op a b v) = literal_opcodes op

-- registers one by one, where there are at most five; and in a row, where they follow each other
abbrev pub as_few : List ℕ → List RawRegs
as_few regs = if nat_le (length regs) 5 then Few (length regs) (places_of regs) ∷ [] else []

abbrev pub as_run : List ℕ → List RawRegs
as_run regs =
    if same_text (registers_in_row (slice_index regs 0) (length regs)) regs then Run (slice_index regs 0) (length regs) ∷ [] else []

abbrev pub as_registers : List ℕ → List RawRegs
as_registers regs = as_few regs ++ as_run regs

-- how far an address is from another, as a signed number of 32 bits
abbrev pub distance_bits : ℕ → ℕ → ℕ
distance_bits at to = (to + 2 ^ 32 - at) % 2 ^ 32

abbrev pub distance : ℕ → ℕ → ℤ
distance at to = signed_number 2147483648 (distance_bits at to)

-- the operands of the instruction at an address, by the index of what it names and the address of its payload
unfoldable pub raw_bodies : ℕ → ℕ → ℕ → Insn → List RawBody
raw_bodies i at payload insn.Nop = Nop ∷ []
raw_bodies i at payload (insn.Move k a b) = Move k a b ∷ []
raw_bodies i at payload (insn.MoveResult k a) = MoveResult k a ∷ []
raw_bodies i at payload (insn.MoveException a) = MoveException a ∷ []
raw_bodies i at payload insn.ReturnVoid = ReturnVoid ∷ []
raw_bodies i at payload (insn.Return k a) = Return k a ∷ []
raw_bodies i at payload (insn.Const a v) = Const a v ∷ []
raw_bodies i at payload (insn.ConstWide a v) = ConstWide a v ∷ []
raw_bodies i at payload (insn.ConstString a s) = ConstString a i ∷ []
raw_bodies i at payload (insn.ConstClass a t) = ConstClass a i ∷ []
raw_bodies i at payload (insn.Monitor a) = Monitor a ∷ []
raw_bodies i at payload (insn.CheckCast a t) = CheckCast a i ∷ []
raw_bodies i at payload (insn.InstanceOf a b t) = InstanceOf a b i ∷ []
raw_bodies i at payload (insn.ArrayLength a b) = ArrayLength a b ∷ []
raw_bodies i at payload (insn.NewInstance a t) = NewInstance a i ∷ []
raw_bodies i at payload (insn.NewArray a b t) = NewArray a b i ∷ []
raw_bodies i at payload (insn.Filled t regs) = map (λ rs. Filled i rs) (as_registers regs)
raw_bodies i at payload (insn.FillArray a width items) = FillArray a (distance at payload) ∷ []
raw_bodies i at payload (insn.Throw a) = Throw a ∷ []
raw_bodies i at payload (insn.Goto to) = Goto (distance at to) ∷ []
raw_bodies i at payload (insn.Switch a cases) = Switch a (distance at payload) ∷ []
raw_bodies i at payload (insn.CmpLong a b c) = CmpLong a b c ∷ []
raw_bodies i at payload (insn.If cond a b to) = If cond a b (distance at to) ∷ []
raw_bodies i at payload (insn.IfZ cond a to) = IfZ cond a (distance at to) ∷ []
raw_bodies i at payload (insn.Aget k a b c) = Aget k a b c ∷ []
raw_bodies i at payload (insn.Aput k a b c) = Aput k a b c ∷ []
raw_bodies i at payload (insn.Iget k a b f) = Iget k a b i ∷ []
raw_bodies i at payload (insn.Iput k a b f) = Iput k a b i ∷ []
raw_bodies i at payload (insn.Sget k a f) = Sget k a i ∷ []
raw_bodies i at payload (insn.Sput k a f) = Sput k a i ∷ []
raw_bodies i at payload (insn.Invoke how m regs) = map (λ rs. Invoke how i rs) (as_registers regs)
raw_bodies i at payload (insn.Unary op a b) = Unary op a b ∷ []
raw_bodies i at payload (insn.Binary op a b c) = Binary op a b c ∷ []
raw_bodies i at payload (insn.BinaryLit op a b v) = BinaryLit op a b v ∷ []

-- the units of an opcode with operands, where they are so many and the operands fit
abbrev pub of_length : ℕ → Option (List ℕ) → Option (List ℕ)
of_length n None = None
of_length n (Some units) = if length units == n then Some units else None

abbrev pub or_next : Option (List ℕ) → Option (List ℕ) → Option (List ℕ)
or_next None next = next
or_next (Some units) next = Some units

-- those of the first opcode that fits, and of the first operands that do
abbrev pub first_opcode : ℕ → RawBody → List ℕ → Option (List ℕ)
first_opcode n body [] = None
first_opcode n body (op ∷ ops) = or_next (of_length n (encoding (record { op = op; body = body }))) (first_opcode n body ops)

abbrev pub first_form : ℕ → Bool → List RawBody → Option (List ℕ)
first_form n sparse [] = None
first_form n sparse (body ∷ bodies) = or_next (first_opcode n body (opcodes_of sparse body)) (first_form n sparse bodies)
