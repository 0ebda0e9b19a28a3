-- Rule X22: each index of an instruction is one of the tables.
use Rattle.std.proofs.Common.{◌≡◌, ℕ, List, [], ◌∷◌, None, Bool, refl, ap}
use Rattle.std.specs.Prelude.{nat_lt}
use Rattle.pi_insn.specs.declared.raw.RawBody.{RawBody}
use Rattle.pi_insn.specs.declared.raw.RawBody.TheVariants.{ConstString, ConstClass, CheckCast, InstanceOf, NewInstance, NewArray, Filled, Iget, Iput, Sget, Sput, Invoke}
use Rattle.pi_format.specs.Rules.Rows.{MemberRow}
use Rattle.pi_format.specs.Rules.Pieces.{Piece, What, Instruction, Payload, code_walk, unit_of, first_insn, index_holds, broken_index}
use Rattle.pi_dextables.specs.declared.tables.Body.{Body}
use Rattle.pi_dextables.specs.declared.tables.Tables.{Tables}
use Rattle.pi_dextables.specs.Said.{BodySaid, IsSaid}
use Rattle.pi_dextables.specs.Writable.{IsWritable}
use Rattle.pi_tablesaid.specs.Closed.{BodyCloses, index_closes, IsClosed}
use Rattle.pi_tablesaid.proofs.EachCode.{none_in_bodies}
use Rattle.pi_tablesaid.proofs.MethodsClosed.{methods_there}

-- an index is one of the file's tables exactly where it is one of the tables
index_same : (file : List ℕ) (t : Tables) → IsSaid file t → (body : RawBody) → index_holds file body ≡ index_closes t body
index_same file t said (ConstString a s) = ap (nat_lt s) said.strings
index_same file t said (ConstClass a i) = ap (nat_lt i) said.types
index_same file t said (CheckCast a i) = ap (nat_lt i) said.types
index_same file t said (InstanceOf a b i) = ap (nat_lt i) said.types
index_same file t said (NewInstance a i) = ap (nat_lt i) said.types
index_same file t said (NewArray a b i) = ap (nat_lt i) said.types
index_same file t said (Filled i regs) = ap (nat_lt i) said.types
index_same file t said (Iget kind a b f) = ap (nat_lt f) said.fields
index_same file t said (Iput kind a b f) = ap (nat_lt f) said.fields
index_same file t said (Sget kind a f) = ap (nat_lt f) said.fields
index_same file t said (Sput kind a f) = ap (nat_lt f) said.fields
index_same file t said (Invoke how m regs) = ap (nat_lt m) said.methods
index_same file t said _ = refl

-- tests that agree are broken by one instruction first
first_same : (p q : RawBody → Bool) → ((body : RawBody) → p body ≡ q body) → (pieces : List Piece)
    → first_insn (λ at i. p i.body) pieces ≡ first_insn (λ at i. q i.body) pieces
first_same p q same [] = refl
first_same p q same (x ∷ pieces) = by_what x.what refl (first_same p q same pieces)
  where
    by_what : (w : What) → x.what ≡ w → first_insn (λ at i. p i.body) pieces ≡ first_insn (λ at i. q i.body) pieces
        → first_insn (λ at i. p i.body) (x ∷ pieces) ≡ first_insn (λ at i. q i.body) (x ∷ pieces)
    by_what (Payload d) e rest = rw e rest
    by_what (Instruction i) e rest = rw (e, same i.body, rest) refl

indices_held : (file : List ℕ) (t : Tables) → IsSaid file t → (row : MemberRow) (b : Body) → BodySaid file row.code b → BodyCloses t b
    → unit_of row.code (first_insn (λ at i. index_holds file i.body) (code_walk file row.code).pieces) ≡ None
indices_held file t said row b body closes =
    rw (body.units, first_same (index_holds file) (index_closes t) (index_same file t said), closes.insns) refl

pub indices_kept : (file : List ℕ) (t : Tables) → IsSaid file t → IsWritable t → IsClosed t → broken_index file ≡ None
indices_kept file t said fits closed =
    none_in_bodies file t (λ (row : MemberRow). unit_of row.code (first_insn (λ at i. index_holds file i.body) (code_walk file row.code).pieces)) (BodyCloses t) said
    (indices_held file t said) (λ i c is j m at. (methods_there t closed i c is j m at).code)
