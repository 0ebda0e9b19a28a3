-- Which instruction the units at a place say.
use Rattle.std.specs.Prelude.{ℕ, ◌+◌, ◌*◌, ◌/◌, ◌%◌, ◌^◌, nat_lt, List, [], ◌∷◌, length, drop, slice_index, Option, Some, None, Result, Ok, Err, if◌then◌else◌}
use Rattle.pi_insn.specs.declared.table.Row.{Row}
use Rattle.pi_insn.specs.declared.table.Row.TheVariants.{F10x, F12x, F11n, F11x, F10t, F20t, F22x, F21t, F21s, F21h, F21c, F23x, F22b, F22t, F22s, F22c, F30t, F32x, F31i, F31t, F31c, F35c, F3rc, F51l}
use Rattle.pi_insn.specs.declared.table.Plain.{Plain}
use Rattle.pi_insn.specs.declared.table.Plain.TheVariants as plain
use Rattle.pi_insn.specs.declared.table.Single.{Single}
use Rattle.pi_insn.specs.declared.table.Single.TheVariants as single
use Rattle.pi_insn.specs.declared.table.Pair.{Pair}
use Rattle.pi_insn.specs.declared.table.Pair.TheVariants as pair
use Rattle.pi_insn.specs.declared.table.Triple.{Triple}
use Rattle.pi_insn.specs.declared.table.Triple.TheVariants as triple
use Rattle.pi_insn.specs.declared.table.Literal.{Literal}
use Rattle.pi_insn.specs.declared.table.Literal.TheVariants as literal
use Rattle.pi_insn.specs.declared.table.Named.{Named}
use Rattle.pi_insn.specs.declared.table.Named.TheVariants as named
use Rattle.pi_insn.specs.declared.table.NamedPair.{NamedPair}
use Rattle.pi_insn.specs.declared.table.NamedPair.TheVariants as named_pair
use Rattle.pi_insn.specs.declared.table.Payloads.{Payloads}
use Rattle.pi_insn.specs.declared.table.Payloads.TheVariants as payloads
use Rattle.pi_insn.specs.declared.table.Listing.{Listing}
use Rattle.pi_insn.specs.declared.table.Listing.TheVariants as listing
use Rattle.pi_insn.specs.declared.raw.RawInsn.{RawInsn}
use Rattle.pi_insn.specs.declared.raw.RawBody.{RawBody}
use Rattle.pi_insn.specs.declared.raw.RawBody.TheVariants.{Nop, Move, MoveResult, MoveException, ReturnVoid, Return, Const, ConstWide, ConstString, ConstClass, Monitor, CheckCast, InstanceOf, ArrayLength, NewInstance, NewArray, Filled, FillArray, Throw, Goto, Switch, CmpLong, If, IfZ, Aget, Aput, Iget, Iput, Sget, Sput, Invoke, Unary, Binary, BinaryLit}
use Rattle.pi_insn.specs.declared.raw.RawRegs.{RawRegs}
use Rattle.pi_insn.specs.declared.raw.RawRegs.TheVariants.{Few, Run}
use Rattle.pi_insn.specs.declared.raw.InsnError.{InsnError}
use Rattle.pi_insn.specs.declared.raw.InsnError.TheVariants.{Unsupported, Cut}
use Rattle.pi_insn.specs.Numbers.{signed_number, signed_extension, word, long}
use Rattle.pi_insn.specs.Table.{row_of, units_of, refuses}

abbrev pub plain_body : Plain → RawBody
plain_body plain.Nop = Nop
plain_body plain.ReturnVoid = ReturnVoid

abbrev pub single_body : Single → ℕ → RawBody
single_body (single.MoveResult k) a = MoveResult k a
single_body single.MoveException a = MoveException a
single_body (single.Return k) a = Return k a
single_body single.Monitor a = Monitor a
single_body single.Throw a = Throw a

-- a binary operation of two registers has the first as its first operand
abbrev pub pair_body : Pair → ℕ → ℕ → RawBody
pair_body (pair.Move k) a b = Move k a b
pair_body pair.ArrayLength a b = ArrayLength a b
pair_body (pair.Unary op) a b = Unary op a b
pair_body (pair.Binary op) a b = Binary op a a b

abbrev pub triple_body : Triple → ℕ → ℕ → ℕ → RawBody
triple_body triple.CmpLong a b c = CmpLong a b c
triple_body (triple.Aget k) a b c = Aget k a b c
triple_body (triple.Aput k) a b c = Aput k a b c
triple_body (triple.Binary op) a b c = Binary op a b c

-- a constant of bits that are extended by their sign
abbrev pub literal_body : Literal → ℕ → ℕ → ℕ → RawBody
literal_body literal.Int a half n = Const a (signed_extension half (2 ^ 32) n)
literal_body literal.Long a half n = ConstWide a (signed_extension half (2 ^ 64) n)

-- a constant whose top unit is given
abbrev pub high_body : Literal → ℕ → ℕ → RawBody
high_body literal.Int a n = Const a (n * 2 ^ 16)
high_body literal.Long a n = ConstWide a (n * 2 ^ 48)

abbrev pub named_body : Named → ℕ → ℕ → RawBody
named_body named.ConstString a i = ConstString a i
named_body named.ConstClass a i = ConstClass a i
named_body named.CheckCast a i = CheckCast a i
named_body named.NewInstance a i = NewInstance a i
named_body (named.Sget k) a i = Sget k a i
named_body (named.Sput k) a i = Sput k a i

abbrev pub named_pair_body : NamedPair → ℕ → ℕ → ℕ → RawBody
named_pair_body named_pair.InstanceOf a b i = InstanceOf a b i
named_pair_body named_pair.NewArray a b i = NewArray a b i
named_pair_body (named_pair.Iget k) a b i = Iget k a b i
named_pair_body (named_pair.Iput k) a b i = Iput k a b i

abbrev pub payload_body : Payloads → ℕ → ℕ → RawBody
payload_body payloads.FillArray a n = FillArray a (signed_number 2147483648 n)
payload_body payloads.Switch a n = Switch a (signed_number 2147483648 n)

abbrev pub listing_body : Listing → ℕ → RawRegs → RawBody
listing_body listing.Filled i regs = Filled i regs
listing_body (listing.Invoke how) i regs = Invoke how i regs

-- a register place, 0 from the number of registers on
abbrev pub place : ℕ → ℕ → ℕ → ℕ
place n i r = if nat_lt i n then r else 0

-- at most five registers: their number in the upper half of the high byte and the fifth in the lower, the first four in a unit
abbrev pub few : ℕ → ℕ → RawRegs
few high u = let n = high / 16 in
    Few n (place n 0 (u % 16) ∷ place n 1 (u / 16 % 16) ∷ place n 2 (u / 256 % 16) ∷ place n 3 (u / 4096) ∷ place n 4 (high % 16) ∷ [])

-- the operands of a row's instruction, from the high byte of its first unit and the units behind that unit
abbrev pub body_of : Row → ℕ → List ℕ → RawBody
body_of (F10x w) high rest = plain_body w
body_of (F12x w) high rest = pair_body w (high % 16) (high / 16)
body_of F11n high rest = literal_body literal.Int (high % 16) 8 (high / 16)
body_of (F11x w) high rest = single_body w high
body_of F10t high rest = Goto (signed_number 128 high)
body_of F20t high rest = Goto (signed_number 32768 (slice_index rest 0))
body_of (F22x k) high rest = Move k high (slice_index rest 0)
body_of (F21t c) high rest = IfZ c high (signed_number 32768 (slice_index rest 0))
body_of (F21s w) high rest = literal_body w high 32768 (slice_index rest 0)
body_of (F21h w) high rest = high_body w high (slice_index rest 0)
body_of (F21c w) high rest = named_body w high (slice_index rest 0)
body_of (F23x w) high rest = triple_body w high (slice_index rest 0 % 256) (slice_index rest 0 / 256)
body_of (F22b op) high rest = BinaryLit op high (slice_index rest 0 % 256) (signed_extension 128 (2 ^ 32) (slice_index rest 0 / 256))
body_of (F22t c) high rest = If c (high % 16) (high / 16) (signed_number 32768 (slice_index rest 0))
body_of (F22s op) high rest = BinaryLit op (high % 16) (high / 16) (signed_extension 32768 (2 ^ 32) (slice_index rest 0))
body_of (F22c w) high rest = named_pair_body w (high % 16) (high / 16) (slice_index rest 0)
body_of F30t high rest = Goto (signed_number 2147483648 (word rest 0))
body_of (F32x k) high rest = Move k (slice_index rest 0) (slice_index rest 1)
body_of (F31i w) high rest = literal_body w high 2147483648 (word rest 0)
body_of (F31t w) high rest = payload_body w high (word rest 0)
body_of F31c high rest = ConstString high (word rest 0)
body_of (F35c w) high rest = listing_body w (slice_index rest 0) (few high (slice_index rest 1))
body_of (F3rc w) high rest = listing_body w (slice_index rest 0) (Run (slice_index rest 1) high)
body_of F51l high rest = ConstWide high (long rest)

abbrev pub insn : ℕ → RawBody → RawInsn
insn op body = record { op = op; body = body }

-- the instruction of a row and its length: none where the high byte is not one of the format, and then none where units are wanting
unfoldable pub row_insn : ℕ → Row → ℕ → List ℕ → Result (RawInsn × ℕ) InsnError
row_insn op row high rest =
    if refuses row high then Err (Unsupported op) else
    if nat_lt (length rest + 1) (units_of row) then Err Cut else
    Ok (insn op (body_of row high rest), units_of row)

abbrev pub insn_where : ℕ → Option Row → ℕ → List ℕ → Result (RawInsn × ℕ) InsnError
insn_where op None high rest = Err (Unsupported op)
insn_where op (Some row) high rest = row_insn op row high rest

-- the instruction with which these units begin, and its length; the opcode is the low byte of the first unit
abbrev pub insn_in : List ℕ → Result (RawInsn × ℕ) InsnError
insn_in [] = Err Cut
insn_in (unit ∷ rest) = insn_where (unit % 256) (row_of (unit % 256)) (unit / 256) rest

-- the instruction at a place
abbrev pub insn_at : List ℕ → ℕ → Result (RawInsn × ℕ) InsnError
insn_at units at = insn_in (drop at units)
