-- The table has each opcode that an instruction is given.
use Rattle.std.proofs.Common.{◌≡◌, ℕ, ◌+◌, ◌*◌, List, [], ◌∷◌, ℤ, Bool, true, false, IsSomeAnd, refl}
use Rattle.std.specs.Prelude.{if◌then◌else◌}
use Rattle.std.specs.List.{All, AllByRecursion}
use Rattle.std.proofs.lemmas.List.Elements.{All-from_recursion}
use Rattle.pi_model.specs.declared.insn.Access.{Access}
use Rattle.pi_model.specs.declared.insn.Access.TheVariants as access
use Rattle.pi_model.specs.declared.insn.Arith.{Arith}
use Rattle.pi_model.specs.declared.insn.Arith.TheVariants.{Int, Long}
use Rattle.pi_model.specs.declared.insn.BinOp.{BinOp}
use Rattle.pi_model.specs.declared.insn.BinOp.TheVariants.{Add, Sub, Rsub, Mul, Div, Rem, And, Or, Xor, Shl, Shr, Ushr}
use Rattle.pi_model.specs.declared.insn.Cond.{Cond}
use Rattle.pi_model.specs.declared.insn.Cond.TheVariants.{Eq, Ne, Lt, Ge, Gt, Le}
use Rattle.pi_model.specs.declared.insn.How.{How}
use Rattle.pi_model.specs.declared.insn.How.TheVariants.{Virtual, Super, Direct, Static, Interface}
use Rattle.pi_model.specs.declared.insn.Kind.{Kind}
use Rattle.pi_model.specs.declared.insn.Kind.TheVariants as kind
use Rattle.pi_model.specs.declared.insn.UnOp.{UnOp}
use Rattle.pi_model.specs.declared.insn.UnOp.TheVariants.{NegInt, NotInt, NegLong, NotLong, IntToLong, LongToInt, IntToByte, IntToChar, IntToShort}
use Rattle.pi_insn.specs.declared.raw.RawBody.{RawBody}
use Rattle.pi_insn.specs.declared.raw.RawBody.TheVariants.{Nop, Move, MoveResult, MoveException, ReturnVoid, Return, Const, ConstWide, ConstString, ConstClass, Monitor, CheckCast, InstanceOf, ArrayLength, NewInstance, NewArray, Filled, FillArray, Throw, Goto, Switch, CmpLong, If, IfZ, Aget, Aput, Iget, Iput, Sget, Sput, Invoke, Unary, Binary, BinaryLit}
use Rattle.pi_insn.specs.declared.raw.RawRegs.{RawRegs}
use Rattle.pi_insn.specs.declared.raw.RawRegs.TheVariants.{Few, Run}
use Rattle.pi_insn.specs.Table.{row_of}
use Rattle.pi_insn.specs.Reading.{body_of, insn}
use Rattle.pi_insn.specs.Writing.{without_operands, NamesFew, IsInTable}
use Rattle.pi_classtables.specs.Forms.{kind_place, access_place, cond_place, how_place, literal_opcodes, unary_opcode, binary_opcodes, listing_opcode, opcodes_of}

-- what holds of each kind, access, condition, way and operation holds of any
by_kind : (P : Kind → Type 0) → P kind.Word → P kind.Wide → P kind.Ref → (k : Kind) → P k
by_kind P a b c kind.Word = a
by_kind P a b c kind.Wide = b
by_kind P a b c kind.Ref = c

by_access : (P : Access → Type 0) → P access.Plain → P access.Wide → P access.Ref → P access.Bool → P access.Byte → P access.Char → P access.Short
    → (k : Access) → P k
by_access P a b c d e f g access.Plain = a
by_access P a b c d e f g access.Wide = b
by_access P a b c d e f g access.Ref = c
by_access P a b c d e f g access.Bool = d
by_access P a b c d e f g access.Byte = e
by_access P a b c d e f g access.Char = f
by_access P a b c d e f g access.Short = g

by_condition : (P : Cond → Type 0) → P Eq → P Ne → P Lt → P Ge → P Gt → P Le → (c : Cond) → P c
by_condition P a b c d e f Eq = a
by_condition P a b c d e f Ne = b
by_condition P a b c d e f Lt = c
by_condition P a b c d e f Ge = d
by_condition P a b c d e f Gt = e
by_condition P a b c d e f Le = f

by_way : (P : How → Type 0) → P Virtual → P Super → P Direct → P Static → P Interface → (h : How) → P h
by_way P a b c d e Virtual = a
by_way P a b c d e Super = b
by_way P a b c d e Direct = c
by_way P a b c d e Static = d
by_way P a b c d e Interface = e

-- the table has this opcode for an instruction, whatever its operands
abbrev Listed : RawBody → ℕ → Type 0
Listed body op = IsSomeAnd (row_of op) (λ row. without_operands body ≡ without_operands (body_of row 0 []))

abbrev AllListed : RawBody → List ℕ → Type 0
AllListed body ops = AllByRecursion (Listed body) ops

unary_listed : (op : UnOp) (a b : ℕ) → Listed (Unary op a b) (unary_opcode op)
unfolding row_of
unary_listed NegInt a b = refl
unary_listed NotInt a b = refl
unary_listed NegLong a b = refl
unary_listed NotLong a b = refl
unary_listed IntToLong a b = refl
unary_listed LongToInt a b = refl
unary_listed IntToByte a b = refl
unary_listed IntToChar a b = refl
unary_listed IntToShort a b = refl

int_listed : (op : BinOp) (a b c : ℕ) → AllListed (Binary (Int op) a b c) (binary_opcodes (Int op))
unfolding row_of
int_listed Add a b c = (refl, (refl, tt))
int_listed Sub a b c = (refl, (refl, tt))
int_listed Rsub a b c = tt
int_listed Mul a b c = (refl, (refl, tt))
int_listed Div a b c = (refl, (refl, tt))
int_listed Rem a b c = (refl, (refl, tt))
int_listed And a b c = (refl, (refl, tt))
int_listed Or a b c = (refl, (refl, tt))
int_listed Xor a b c = (refl, (refl, tt))
int_listed Shl a b c = (refl, (refl, tt))
int_listed Shr a b c = (refl, (refl, tt))
int_listed Ushr a b c = (refl, (refl, tt))

long_listed : (op : BinOp) (a b c : ℕ) → AllListed (Binary (Long op) a b c) (binary_opcodes (Long op))
unfolding row_of
long_listed Add a b c = (refl, (refl, tt))
long_listed Sub a b c = (refl, (refl, tt))
long_listed Rsub a b c = tt
long_listed Mul a b c = (refl, (refl, tt))
long_listed Div a b c = (refl, (refl, tt))
long_listed Rem a b c = (refl, (refl, tt))
long_listed And a b c = (refl, (refl, tt))
long_listed Or a b c = (refl, (refl, tt))
long_listed Xor a b c = (refl, (refl, tt))
long_listed Shl a b c = (refl, (refl, tt))
long_listed Shr a b c = (refl, (refl, tt))
long_listed Ushr a b c = (refl, (refl, tt))

binary_listed : (op : Arith) (a b c : ℕ) → AllListed (Binary op a b c) (binary_opcodes op)
binary_listed (Int op) a b c = int_listed op a b c
binary_listed (Long op) a b c = long_listed op a b c

literal_listed : (op : BinOp) (a b v : ℕ) → AllListed (BinaryLit op a b v) (literal_opcodes op)
unfolding row_of
literal_listed Add a b v = (refl, (refl, tt))
literal_listed Sub a b v = tt
literal_listed Rsub a b v = (refl, (refl, tt))
literal_listed Mul a b v = (refl, (refl, tt))
literal_listed Div a b v = (refl, (refl, tt))
literal_listed Rem a b v = (refl, (refl, tt))
literal_listed And a b v = (refl, (refl, tt))
literal_listed Or a b v = (refl, (refl, tt))
literal_listed Xor a b v = (refl, (refl, tt))
literal_listed Shl a b v = (refl, tt)
literal_listed Shr a b v = (refl, tt)
literal_listed Ushr a b v = (refl, tt)

filled_listed : (i : ℕ) (regs : RawRegs) → AllListed (Filled i regs) (listing_opcode 0x24 0x25 regs)
unfolding row_of
filled_listed i (Few n regs) = (refl, tt)
filled_listed i (Run first n) = (refl, tt)

invoke_listed : (how : How) (i : ℕ) (regs : RawRegs)
    → AllListed (Invoke how i regs) (listing_opcode (0x6e + how_place how) (0x74 + how_place how) regs)
unfolding row_of
invoke_listed how i (Few n regs) =
    (by_way (λ h. Listed (Invoke h i (Few n regs)) (0x6e + how_place h)) refl refl refl refl refl how, tt)
invoke_listed how i (Run first n) =
    (by_way (λ h. Listed (Invoke h i (Run first n)) (0x74 + how_place h)) refl refl refl refl refl how, tt)

move_listed : (k : Kind) (a b : ℕ) → AllListed (Move k a b) ((3 * kind_place k + 1) ∷ (3 * kind_place k + 2) ∷ (3 * kind_place k + 3) ∷ [])
unfolding row_of
move_listed kind.Word a b = (refl, (refl, (refl, tt)))
move_listed kind.Wide a b = (refl, (refl, (refl, tt)))
move_listed kind.Ref a b = (refl, (refl, (refl, tt)))

switch_listed : (sparse : Bool) (a : ℕ) (dist : ℤ) → AllListed (Switch a dist) ((if sparse then 0x2c else 0x2b) ∷ [])
unfolding row_of
switch_listed true a dist = (refl, tt)
switch_listed false a dist = (refl, tt)

all_listed : (sparse : Bool) (body : RawBody) → AllListed body (opcodes_of sparse body)
unfolding row_of opcodes_of
all_listed sparse Nop = (refl, tt)
all_listed sparse (Move k a b) = move_listed k a b
all_listed sparse (MoveResult k a) = (by_kind (λ k. Listed (MoveResult k a) (0x0a + kind_place k)) refl refl refl k, tt)
all_listed sparse (MoveException a) = (refl, tt)
all_listed sparse ReturnVoid = (refl, tt)
all_listed sparse (Return k a) = (by_kind (λ k. Listed (Return k a) (0x0f + kind_place k)) refl refl refl k, tt)
all_listed sparse (Const a v) = (refl, (refl, (refl, (refl, tt))))
all_listed sparse (ConstWide a v) = (refl, (refl, (refl, (refl, tt))))
all_listed sparse (ConstString a i) = (refl, (refl, tt))
all_listed sparse (ConstClass a i) = (refl, tt)
all_listed sparse (Monitor a) = (refl, tt)
all_listed sparse (CheckCast a i) = (refl, tt)
all_listed sparse (InstanceOf a b i) = (refl, tt)
all_listed sparse (ArrayLength a b) = (refl, tt)
all_listed sparse (NewInstance a i) = (refl, tt)
all_listed sparse (NewArray a b i) = (refl, tt)
all_listed sparse (Filled i regs) = filled_listed i regs
all_listed sparse (FillArray a dist) = (refl, tt)
all_listed sparse (Throw a) = (refl, tt)
all_listed sparse (Goto dist) = (refl, (refl, (refl, tt)))
all_listed sparse (Switch a dist) = switch_listed sparse a dist
all_listed sparse (CmpLong a b c) = (refl, tt)
all_listed sparse (If cond a b dist) = (by_condition (λ c. Listed (If c a b dist) (0x32 + cond_place c)) refl refl refl refl refl refl cond, tt)
all_listed sparse (IfZ cond a dist) = (by_condition (λ c. Listed (IfZ c a dist) (0x38 + cond_place c)) refl refl refl refl refl refl cond, tt)
all_listed sparse (Aget k a b c) = (by_access (λ k. Listed (Aget k a b c) (0x44 + access_place k)) refl refl refl refl refl refl refl k, tt)
all_listed sparse (Aput k a b c) = (by_access (λ k. Listed (Aput k a b c) (0x4b + access_place k)) refl refl refl refl refl refl refl k, tt)
all_listed sparse (Iget k a b i) = (by_access (λ k. Listed (Iget k a b i) (0x52 + access_place k)) refl refl refl refl refl refl refl k, tt)
all_listed sparse (Iput k a b i) = (by_access (λ k. Listed (Iput k a b i) (0x59 + access_place k)) refl refl refl refl refl refl refl k, tt)
all_listed sparse (Sget k a i) = (by_access (λ k. Listed (Sget k a i) (0x60 + access_place k)) refl refl refl refl refl refl refl k, tt)
all_listed sparse (Sput k a i) = (by_access (λ k. Listed (Sput k a i) (0x67 + access_place k)) refl refl refl refl refl refl refl k, tt)
all_listed sparse (Invoke how i regs) = invoke_listed how i regs
all_listed sparse (Unary op a b) = (unary_listed op a b, tt)
all_listed sparse (Binary op a b c) = binary_listed op a b c
all_listed sparse (BinaryLit op a b v) = literal_listed op a b v

each_in_table : (body : RawBody) (ops : List ℕ) → NamesFew body → AllListed body ops → AllByRecursion (λ op. IsInTable (insn op body)) ops
each_in_table body [] few listed = tt
each_in_table body (op ∷ ops) few listed =
    (record { listed = listed.0; registers = few }, each_in_table body ops few listed.1)

pub in_table : (sparse : Bool) (body : RawBody) → NamesFew body → All (λ op. IsInTable (record { op = op; body = body })) (opcodes_of sparse body)
in_table sparse body few =
    All-from_recursion (λ op. IsInTable (insn op body)) (opcodes_of sparse body) (each_in_table body (opcodes_of sparse body) few (all_listed sparse body))
