-- The instruction of a program that an instruction of a file says: names in place of indices, addresses in place of
-- distances, and the data of payloads.
use Rattle.std.specs.Prelude.{ℕ, suc, ◌+◌, ◌-◌, ◌*◌, ◌/◌, ◌%◌, ◌^◌, ◌==◌, ℤ, pos, negsuc, ◌+ℤ◌, List, [], length, take, slice_index, Option, Some, None, if◌then◌else◌}
use Rattle.pi_model.specs.declared.insn.Insn.{Insn}
use Rattle.pi_model.specs.declared.insn.Insn.TheVariants as insn
use Rattle.pi_model.specs.declared.insn.Case.{Case}
use Rattle.pi_model.specs.Registers.{registers_in_row}
use Rattle.pi_insn.specs.declared.raw.RawBody.{RawBody}
use Rattle.pi_insn.specs.declared.raw.RawBody.TheVariants.{Nop, Move, MoveResult, MoveException, ReturnVoid, Return, Const, ConstWide, ConstString, ConstClass, Monitor, CheckCast, InstanceOf, ArrayLength, NewInstance, NewArray, Filled, FillArray, Throw, Goto, Switch, CmpLong, If, IfZ, Aget, Aput, Iget, Iput, Sget, Sput, Invoke, Unary, Binary, BinaryLit}
use Rattle.pi_insn.specs.declared.raw.RawRegs.{RawRegs}
use Rattle.pi_insn.specs.declared.raw.RawRegs.TheVariants.{Few, Run}
use Rattle.pi_insn.specs.Numbers.{signed_number, word}
use Rattle.pi_insn.specs.Payloads.{Data, PackedData, SparseData, ArrayData}
use Rattle.pi_format.specs.Rules.Lowest.{tabulation}
use Rattle.pi_format.specs.Rules.Pieces.{Piece, payload_of}
use Rattle.pi_format.specs.Says.Names.{Named, string_name, type_name, field_ref, method_ref}

-- a whole number modulo 2^32
abbrev pub word_of : ℤ → ℕ
word_of (pos n) = n % 2 ^ 32
word_of (negsuc n) = 2 ^ 32 - suc (n % 2 ^ 32)

-- the address that far from another, modulo 2^32
abbrev pub target : ℕ → ℤ → ℕ
target at dist = word_of (pos at +ℤ dist)

-- the registers that an instruction names: the first so many of five, or so many in a row modulo 2^16
abbrev pub registers : RawRegs → List ℕ
registers (Few n regs) = take n regs
registers (Run first n) = registers_in_row first n

-- the target of a case by the units of all targets
abbrev pub case_target : ℕ → List ℕ → ℕ → ℕ
case_target at targets k = target at (signed_number 2147483648 (word targets (2 * k)))

-- the cases of a switch: keys count from the first one up, or each stands by itself
abbrev pub cases_of : ℕ → Option Data → List Case
cases_of at (Some (PackedData first targets)) =
    tabulation (λ k. record { key = word_of (first +ℤ pos k); to = case_target at targets k }) 0 (length targets / 2)
cases_of at (Some (SparseData keys targets)) =
    tabulation (λ k. record { key = word keys (2 * k); to = case_target at targets k }) 0 (length targets / 2)
cases_of at (Some (ArrayData width size items)) = []
cases_of at None = []

-- an item of a width of 1, 2, 4 or 8 bytes, by the units of all items
abbrev pub item_of : ℕ → List ℕ → ℕ → ℕ
item_of width units k =
    if width == 1 then (if k % 2 == 0 then slice_index units (k / 2) % 256 else slice_index units (k / 2) / 256) else
    if width == 2 then slice_index units k else
    if width == 4 then word units (2 * k) else
    word units (4 * k) + 2 ^ 32 * word units (4 * k + 2)

-- the width and the items of an array's data
abbrev pub width_of : Option Data → ℕ
width_of (Some (ArrayData width size items)) = width
width_of (Some (PackedData first targets)) = 0
width_of (Some (SparseData keys targets)) = 0
width_of None = 0

abbrev pub items_of : Option Data → List ℕ
items_of (Some (ArrayData width size items)) = tabulation (item_of width items) 0 size
items_of (Some (PackedData first targets)) = []
items_of (Some (SparseData keys targets)) = []
items_of None = []

-- the instruction at an address, among the pieces of its code
unfoldable pub insn_of : Named → List Piece → ℕ → RawBody → Insn
insn_of n pieces at Nop = insn.Nop
insn_of n pieces at (Move kind a b) = insn.Move kind a b
insn_of n pieces at (MoveResult k a) = insn.MoveResult k a
insn_of n pieces at (MoveException a) = insn.MoveException a
insn_of n pieces at ReturnVoid = insn.ReturnVoid
insn_of n pieces at (Return k a) = insn.Return k a
insn_of n pieces at (Const a v) = insn.Const a v
insn_of n pieces at (ConstWide a v) = insn.ConstWide a v
insn_of n pieces at (ConstString a s) = insn.ConstString a (string_name n s)
insn_of n pieces at (ConstClass a t) = insn.ConstClass a (type_name n t)
insn_of n pieces at (Monitor a) = insn.Monitor a
insn_of n pieces at (CheckCast a t) = insn.CheckCast a (type_name n t)
insn_of n pieces at (InstanceOf a b t) = insn.InstanceOf a b (type_name n t)
insn_of n pieces at (ArrayLength a b) = insn.ArrayLength a b
insn_of n pieces at (NewInstance a t) = insn.NewInstance a (type_name n t)
insn_of n pieces at (NewArray a b t) = insn.NewArray a b (type_name n t)
insn_of n pieces at (Filled t regs) = insn.Filled (type_name n t) (registers regs)
insn_of n pieces at (FillArray a dist) =
    insn.FillArray a (width_of (payload_of pieces at dist)) (items_of (payload_of pieces at dist))
insn_of n pieces at (Throw a) = insn.Throw a
insn_of n pieces at (Goto dist) = insn.Goto (target at dist)
insn_of n pieces at (Switch a dist) = insn.Switch a (cases_of at (payload_of pieces at dist))
insn_of n pieces at (CmpLong a b c) = insn.CmpLong a b c
insn_of n pieces at (If cond a b dist) = insn.If cond a b (target at dist)
insn_of n pieces at (IfZ cond a dist) = insn.IfZ cond a (target at dist)
insn_of n pieces at (Aget kind a b c) = insn.Aget kind a b c
insn_of n pieces at (Aput kind a b c) = insn.Aput kind a b c
insn_of n pieces at (Iget kind a b f) = insn.Iget kind a b (field_ref n f)
insn_of n pieces at (Iput kind a b f) = insn.Iput kind a b (field_ref n f)
insn_of n pieces at (Sget kind a f) = insn.Sget kind a (field_ref n f)
insn_of n pieces at (Sput kind a f) = insn.Sput kind a (field_ref n f)
insn_of n pieces at (Invoke how m regs) = insn.Invoke how (method_ref n m) (registers regs)
insn_of n pieces at (Unary op a b) = insn.Unary op a b
insn_of n pieces at (Binary op a b c) = insn.Binary op a b c
insn_of n pieces at (BinaryLit op a b v) = insn.BinaryLit op a b v
