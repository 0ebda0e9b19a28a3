-- The units of a form are read as the instruction again.
use Rattle.std.proofs.Common.{◌≡◌, ℕ, suc, ◌==◌, Bool, List, [], ◌∷◌, ◌++◌, length, Option, Some, None, Ok, refl, sym, subst, arith, ◌⊎◌, inl, inr}
use Rattle.std.specs.List.{All, AllByRecursion, Contains}
use Rattle.std.proofs.lemmas.Bool.{eqb-true}
use Rattle.std.proofs.lemmas.List.Elements.{All-from_recursion, All-contains, All-tail}
use Rattle.pi_model.specs.declared.insn.Insn.{Insn}
use Rattle.pi_model.specs.declared.insn.Insn.TheVariants as insn
use Rattle.pi_insn.specs.declared.raw.RawInsn.{RawInsn}
use Rattle.pi_insn.specs.declared.raw.RawBody.{RawBody}
use Rattle.pi_insn.specs.declared.raw.RawBody.TheVariants.{Filled, Invoke}
use Rattle.pi_insn.specs.Reading.{insn_in}
use Rattle.pi_insn.specs.Writing.{encoding, NamesFew, IsInTable}
use Rattle.pi_insn.proofs.Steps.{chosen}
use Rattle.pi_insn.proofs.Rounds.{written_is_read}
use Rattle.pi_format.specs.Rules.Pieces.{Instruction, front_piece}
use Rattle.pi_classtables.specs.Forms.{opcodes_of, raw_bodies, of_length, or_next, first_opcode, first_form}
use Rattle.pi_classtables.proofs.Opcodes.{in_table}
use Rattle.pi_classlaws.proofs.Registers.{all_listings}

-- an instruction of a file, by its parts
abbrev pub raw_insn : ℕ → RawBody → RawInsn
raw_insn op body = record { op = op; body = body }

-- registers that an instruction names one by one are at most five
each_few : (i at payload : ℕ) (x : Insn) → AllByRecursion NamesFew (raw_bodies i at payload x)
unfolding raw_bodies
each_few i at payload (insn.Filled t regs) = all_listings NamesFew (λ raw. Filled i raw) regs (λ raw s. s.few)
each_few i at payload (insn.Invoke how m regs) = all_listings NamesFew (λ raw. Invoke how i raw) regs (λ raw s. s.few)
each_few i at payload _ = (tt, tt)

pub bodies_few : (i at payload : ℕ) (x : Insn) → All NamesFew (raw_bodies i at payload x)
bodies_few i at payload x = All-from_recursion NamesFew (raw_bodies i at payload x) (each_few i at payload x)

-- units of a length that an instruction with one of these operands has
pub record Formed (n : ℕ) (sparse : Bool) (bodies : List RawBody) (units : List ℕ) : Type 0 where
  pub op : ℕ
  pub body : RawBody
  pub within : Contains bodies body
  pub listed : Contains (opcodes_of sparse body) op
  pub there : IsInTable (raw_insn op body)
  pub encoded : encoding (raw_insn op body) ≡ Some units
  pub long : length units ≡ n

-- the first thing of a list is in it, and so is each of the rest
contains_first : {A : Type 0} (x : A) (xs : List A) → Contains (x ∷ xs) x
contains_first x xs = (0, omega arith, refl)

contains_later : {A : Type 0} (x y : A) (xs : List A) → Contains xs y → Contains (x ∷ xs) y
contains_later x y xs c = (suc c.0, omega (arith, c.1), c.2)

either_some : (o next : Option (List ℕ)) (units : List ℕ) → or_next o next ≡ Some units → (o ≡ Some units) ⊎ (next ≡ Some units)
either_some None next units e = inr e
either_some (Some us) next units e = inl e

length_some : (n : ℕ) (o : Option (List ℕ)) (units : List ℕ) → of_length n o ≡ Some units → (o ≡ Some units) × (length units ≡ n)
length_some n None units e = cc
length_some n (Some us) units e =
    let found = chosen (length us == n) us units e in
    let same : units ≡ us = found.1 in
    let long : length us ≡ n = eqb-true (length us) n found.0 in
    (cc, subst (λ (vs : List ℕ). length vs ≡ n) (sym same) long)

-- the opcode that was taken
record OpcodeFound (n : ℕ) (body : RawBody) (ops : List ℕ) (units : List ℕ) : Type 0 where
  op : ℕ
  listed : Contains ops op
  encoded : encoding (raw_insn op body) ≡ Some units
  long : length units ≡ n

opcode_found : (n : ℕ) (body : RawBody) (ops units : List ℕ) → first_opcode n body ops ≡ Some units → OpcodeFound n body ops units
opcode_found n body [] units e = cc
opcode_found n body (op ∷ ops) units e =
    by_first (either_some (of_length n (encoding (raw_insn op body))) (first_opcode n body ops) units e) (λ f. opcode_found n body ops units f)
  where
    by_first : (of_length n (encoding (raw_insn op body)) ≡ Some units) ⊎ (first_opcode n body ops ≡ Some units)
        → (first_opcode n body ops ≡ Some units → OpcodeFound n body ops units) → OpcodeFound n body (op ∷ ops) units
    by_first (inl here) again =
        let found = length_some n (encoding (raw_insn op body)) units here in
        record { op = op; listed = contains_first op ops; encoded = found.0; long = found.1 }
    by_first (inr later) again =
        let found = again later in
        record { op = found.op; listed = contains_later op found.op ops found.listed; encoded = found.encoded; long = found.long }

pub form_found : (n : ℕ) (sparse : Bool) (bodies : List RawBody) (units : List ℕ) → All NamesFew bodies → first_form n sparse bodies ≡ Some units
    → Formed n sparse bodies units
form_found n sparse [] units few e = cc
form_found n sparse (body ∷ bodies) units few e =
    by_first (either_some (first_opcode n body (opcodes_of sparse body)) (first_form n sparse bodies) units e)
    (λ f. form_found n sparse bodies units (All-tail NamesFew body bodies few) f)
  where
    by_first : (first_opcode n body (opcodes_of sparse body) ≡ Some units) ⊎ (first_form n sparse bodies ≡ Some units)
        → (first_form n sparse bodies ≡ Some units → Formed n sparse bodies units) → Formed n sparse (body ∷ bodies) units
    by_first (inl here) again =
        let found = opcode_found n body (opcodes_of sparse body) units here in
        let first = contains_first body bodies in
        record {
          op = found.op;
          body = body;
          within = first;
          listed = found.listed;
          there = All-contains (λ op. IsInTable (raw_insn op body)) (opcodes_of sparse body) found.op
              (in_table sparse body (All-contains NamesFew (body ∷ bodies) body few first)) found.listed;
          encoded = found.encoded;
          long = found.long;
        }
    by_first (inr later) again =
        let found = again later in
        record {
          op = found.op;
          body = found.body;
          within = contains_later body found.body bodies found.within;
          listed = found.listed;
          there = found.there;
          encoded = found.encoded;
          long = found.long;
        }

-- such units are read again, whatever stands behind
pub form_read : (n : ℕ) (sparse : Bool) (bodies : List RawBody) (units rest : List ℕ) (f : Formed n sparse bodies units)
    → insn_in (units ++ rest) ≡ Ok (raw_insn f.op f.body, n)
form_read n sparse bodies units rest f =
    let P : ℕ → Type 0 = λ long. insn_in (units ++ rest) ≡ Ok (raw_insn f.op f.body, long) in
    subst P f.long (written_is_read (raw_insn f.op f.body) units [] rest f.there f.encoded)

pub form_front : (at n : ℕ) (sparse : Bool) (bodies : List RawBody) (units rest : List ℕ) (f : Formed n sparse bodies units)
    → front_piece at (units ++ rest) ≡ Some (record { at = at; units = n; what = Instruction (raw_insn f.op f.body) })
form_front at n sparse bodies units rest f = rw (form_read n sparse bodies units rest f) refl
