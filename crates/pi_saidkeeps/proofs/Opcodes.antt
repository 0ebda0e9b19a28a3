-- Among the instructions that are read only one opcode is that of filling an array.
use Rattle.std.proofs.Common.{◌≡◌, ℕ, zero, suc, ◌+◌, List, [], ◌∷◌, get_or, Option, Some, None, Ok, IsSomeAnd, Bool, true, false, refl, sym, ap, ◌∙◌, subst, arith}
use Rattle.std.specs.Prelude.{◌==◌, ◌&&◌, ◌||◌, not}
use Rattle.std.proofs.lemmas.Bool.{and_parts}
use Rattle.pi_insn.specs.declared.rows.TheConstants.{ROWS}
use Rattle.pi_insn.specs.declared.table.Row.{Row}
use Rattle.pi_insn.specs.declared.raw.RawBody.{RawBody}
use Rattle.pi_insn.specs.declared.raw.RawBody.TheVariants.{FillArray}
use Rattle.pi_insn.specs.declared.raw.RawInsn.{RawInsn}
use Rattle.pi_insn.specs.Table.{row_of}
use Rattle.pi_insn.specs.Reading.{body_of, insn_in}
use Rattle.pi_insn.specs.Writing.{without_operands}
use Rattle.pi_insn.proofs.Rounds.{read_is_in_table}

-- the instruction fills an array
abbrev pub fills : RawBody → Bool
fills (FillArray a dist) = true
fills _ = false

-- an instruction that fills an array has the opcode of that
abbrev pub named_well : ℕ → RawBody → Bool
named_well op body = not (fills body) || (op == 0x26)

row_named : ℕ → Option Row → Bool
row_named op None = true
row_named op (Some row) = named_well op (body_of row 0 [])

rows_named : ℕ → List (Option Row) → Bool
rows_named op [] = true
rows_named op (row ∷ rows) = row_named op row && rows_named (op + 1) rows

table_named : rows_named 0 ROWS ≡ true
unfolding rows_named row_named
table_named = refl

row_at : (op : ℕ) (rows : List (Option Row)) (k : ℕ) → rows_named op rows ≡ true → row_named (op + k) (get_or rows k None) ≡ true
unfolding rows_named row_named
row_at op [] k all = refl
row_at op (row ∷ rows) zero all =
    let place : op ≡ op + 0 = omega arith in
    subst (λ (j : ℕ). row_named j row ≡ true) place ((and_parts (row_named op row) (rows_named (op + 1) rows) all).0)
row_at op (row ∷ rows) (suc k) all =
    let place : op + 1 + k ≡ op + suc k = omega arith in
    subst (λ (j : ℕ). row_named j (get_or rows k None) ≡ true) place (row_at (op + 1) rows k ((and_parts (row_named op row) (rows_named (op + 1) rows) all).1))

fills_bare : (body : RawBody) → fills (without_operands body) ≡ fills body
fills_bare (FillArray a dist) = refl
fills_bare _ = refl

named_by : (op : ℕ) (body : RawBody) (o : Option Row) → row_named op o ≡ true
    → IsSomeAnd o (λ row. without_operands body ≡ without_operands (body_of row 0 [])) → named_well op body ≡ true
unfolding row_named
named_by op body None named there = absurd there
named_by op body (Some row) named there =
    let same : fills body ≡ fills (body_of row 0 []) = sym (fills_bare body) ∙ ap fills there ∙ fills_bare (body_of row 0 []) in
    rw same named

pub read_named : (units : List ℕ) (i : RawInsn) (n : ℕ) → insn_in units ≡ Ok (i, n) → named_well i.op i.body ≡ true
unfolding row_of
read_named units i n e =
    let place : 0 + i.op ≡ i.op = omega arith in
    let row = subst (λ (j : ℕ). row_named j (get_or ROWS i.op None) ≡ true) place (row_at 0 ROWS i.op table_named) in
    named_by i.op i.body (row_of i.op) row (read_is_in_table units i n e).listed
