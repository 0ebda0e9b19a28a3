-- The forms of operands that stand one behind the other.
use Rattle.std.proofs.Common.{◌≡◌, ℕ, Bool, List, [], ◌∷◌, ◌++◌, Option, Some, None, refl, ap, ◌∙◌, lit<}
use Rattle.std.specs.List.{All}
use Rattle.std.specs.Option.{option_to_list}
use Rattle.pi_insn.specs.declared.raw.RawBody.{RawBody}
use Rattle.pi_insn.specs.Writing.{IsInTable, NamesFew}
use Rattle.pi_classtables.specs.Forms.{or_next, first_opcode, first_form, opcodes_of}
use Rattle.pi_classtables.proofs.Opcodes.{in_table}

-- the table has each opcode of operands of which registers named one by one are at most five
pub table_has : (sparse : Bool) (body : RawBody) (given : Option RawBody) (ops : List ℕ) → given ≡ Some body
    → All NamesFew (option_to_list given) → ops ≡ opcodes_of sparse body → All (λ op. IsInTable (record { op = op; body = body })) ops
table_has sparse body given ops is few made =
    let all_few : All NamesFew (body ∷ []) = rw is at few in
    rw made (in_table sparse body (all_few 0 body (lit< tt)))

-- a form with no other behind it
pub next_none : (form : Option (List ℕ)) → or_next form None ≡ form
next_none None = refl
next_none (Some units) = refl

-- what is tried next may be tried in one or in two
or_next_assoc : (a b c : Option (List ℕ)) → or_next a (or_next b c) ≡ or_next (or_next a b) c
or_next_assoc None b c = refl
or_next_assoc (Some units) b c = refl

-- operands are tried in order, those of one list before those of the next
pub form_of_both : (n : ℕ) (sparse : Bool) (xs ys : List RawBody)
    → first_form n sparse (xs ++ ys) ≡ or_next (first_form n sparse xs) (first_form n sparse ys)
form_of_both n sparse [] ys = refl
form_of_both n sparse (x ∷ xs) ys =
    let here = first_opcode n x (opcodes_of sparse x) in
    ap (or_next here) (form_of_both n sparse xs ys) ∙ or_next_assoc here (first_form n sparse xs) (first_form n sparse ys)
