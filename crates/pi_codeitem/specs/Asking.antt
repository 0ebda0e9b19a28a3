-- Which instructions may point at a payload, and which tests pieces pass.
use Rattle.std.specs.Prelude.{ℕ, ◌==◌, List, slice_get, Option, Some, None, Bool, true, false, if◌then◌else◌}
use Rattle.pi_insn.specs.declared.raw.RawInsn.{RawInsn}
use Rattle.pi_insn.specs.Payloads.{Data, PackedData, SparseData, ArrayData}
use Rattle.pi_format.specs.Rules.Pieces.{Piece, What, Instruction, Payload, keys_rise}

-- the opcode of the instructions that may point at a payload: fill-array-data, packed-switch, and sparse-switch where
-- the keys rise
abbrev pub data_asker : Data → Option ℕ
data_asker (PackedData first targets) = Some 0x2b
data_asker (SparseData keys targets) = if keys_rise keys then Some 0x2c else None
data_asker (ArrayData width size items) = Some 0x26

abbrev pub asker : What → Option ℕ
asker (Instruction i) = None
asker (Payload d) = data_asker d

-- an opcode is that of the instructions that may point there
abbrev pub asks : ℕ → Option ℕ → Bool
asks op None = false
asks op (Some a) = op == a

-- the piece with a number
abbrev pub piece_in : List Piece → Option ℕ → Option Piece
piece_in pieces None = None
piece_in pieces (Some k) = slice_get pieces k

-- the payload that a piece is
abbrev pub data_in : What → Option Data
data_in (Instruction i) = None
data_in (Payload d) = Some d

abbrev pub payload_in : Option Piece → Option Data
payload_in None = None
payload_in (Some p) = data_in p.what

-- an instruction passes a test; a payload is not asked
abbrev pub passes : (ℕ → RawInsn → Bool) → Piece → Bool
passes test p = by_what p.at p.what test
  where
    by_what : ℕ → What → (ℕ → RawInsn → Bool) → Bool
    by_what at (Payload d) test = true
    by_what at (Instruction i) test = test at i
