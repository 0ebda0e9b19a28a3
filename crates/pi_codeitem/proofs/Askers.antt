-- Which payloads instructions may point at, and the first instruction that breaks a test.
use Rattle.std.proofs.Common.{◌≡◌, ℕ, zero, suc, ◌+◌, ◌<◌, ◌≤◌, List, [], ◌∷◌, length, drop, get_or, map, Bool, true, false, Option, Some, None, refl, sym, ap, ◌∙◌, arith, subst}
use Rattle.std.specs.Prelude.{◌==◌, ◌&&◌, ◌%◌, ℤ, pos, ◌+ℤ◌, slice_get, find, if◌then◌else◌}
use Rattle.std.proofs.Math.ListN.{drop_of_length-le}
use Rattle.std.proofs.lemmas.Bool.Decides.{nat_tests}
use Rattle.std.proofs.lemmas.Option.{slice_get-map, get_or_from_slice_get}
use Rattle.pi_insn.specs.declared.raw.RawInsn.{RawInsn}
use Rattle.pi_insn.specs.Payloads.{PackedData, SparseData, ArrayData}
use Rattle.pi_format.specs.Rules.Pieces.{Piece, What, Instruction, Payload, keys_rise, payload_fits, payload_found, address, payload_of, first_insn}
use Rattle.pi_format.proofs.Loops.{none_first}
use Rattle.pi_codeitem.specs.Asking.{asker, asks, piece_in, data_in, payload_in, passes}

pub asker_fits : (op : ℕ) (w : What) → asks op (asker w) ≡ payload_fits op (data_in w)
asker_fits op (Instruction i) = refl
asker_fits op (Payload (PackedData first targets)) = refl
asker_fits op (Payload (ArrayData width size items)) = refl
asker_fits op (Payload (SparseData keys targets)) = by_keys (keys_rise keys)
  where
    and_true : (b : Bool) → b ≡ (b && true)
    and_true true = refl
    and_true false = refl

    and_false : (b : Bool) → false ≡ (b && false)
    and_false true = refl
    and_false false = refl

    by_keys : (b : Bool) → asks op (if b then Some 0x2c else None) ≡ ((op == 0x2c) && b)
    by_keys true = and_true (op == 0x2c)
    by_keys false = and_false (op == 0x2c)

-- the payload at an address is that of the piece there
found_first : (a units at : ℕ) (w : What) (ps : List Piece) (b : Bool) → (a == at) ≡ b → payload_found ps at ≡ payload_in (find (λ (p : Piece). p.at == at) ps)
    → payload_found (record { at = a; units = units; what = w } ∷ ps) at ≡ payload_in (find (λ (p : Piece). p.at == at) (record { at = a; units = units; what = w } ∷ ps))
found_first a units at (Instruction i) ps true e later = rw e refl
found_first a units at (Payload d) ps true e later = rw e refl
found_first a units at w ps false e later = rw e later

found_in : (pieces : List Piece) (at : ℕ) → payload_found pieces at ≡ payload_in (find (λ (p : Piece). p.at == at) pieces)
found_in [] at = refl
found_in (p ∷ ps) at = found_first p.at p.units at p.what ps (p.at == at) refl (found_in ps at)

pub even_found : (pieces : List Piece) (at place : ℕ) (dist : ℤ) (o : Option Piece) → address (pos at +ℤ dist) ≡ Some place → place % 2 ≡ 0
    → o ≡ find (λ (p : Piece). p.at == place) pieces → payload_of pieces at dist ≡ payload_in o
even_found pieces at place dist o there even e =
    let t : (place % 2 == 0) ≡ true = grind (arith, nat_tests) in
    rw (there, t) (found_in pieces place ∙ ap payload_in (sym e))

first_is : (test : ℕ → RawInsn → Bool) (at units : ℕ) (w : What) (ps : List Piece)
    → first_insn test (record { at = at; units = units; what = w } ∷ ps) ≡ (if passes test (record { at = at; units = units; what = w }) then first_insn test ps else Some at)
first_is test at units (Instruction i) ps = refl
first_is test at units (Payload d) ps = refl

-- the first instruction that breaks a test, by one more piece
pub insn_goes : (test : ℕ → RawInsn → Bool) (pieces : List Piece) (k : ℕ) (p : Piece) → slice_get pieces k ≡ Some p → passes test p ≡ true
    → first_insn test (drop (k + 1) pieces) ≡ first_insn test (drop k pieces)
insn_goes test [] k p is holds = cc
insn_goes test (first ∷ others) zero p is holds =
    let same : p ≡ first = cc in
    let t : passes test first ≡ true = subst (λ (q : Piece). passes test q ≡ true) same holds in
    sym (first_is test first.at first.units first.what others ∙ rw t refl)
insn_goes test (first ∷ others) (suc k) p is holds =
    let next : suc k + 1 ≡ suc (k + 1) = omega arith in
    rw next (insn_goes test others k p is holds)

pub insn_stops : (test : ℕ → RawInsn → Bool) (pieces : List Piece) (k : ℕ) (p : Piece) → slice_get pieces k ≡ Some p → passes test p ≡ false
    → first_insn test (drop k pieces) ≡ Some p.at
insn_stops test [] k p is breaks = cc
insn_stops test (first ∷ others) zero p is breaks =
    let same : p ≡ first = cc in
    let t : passes test first ≡ false = subst (λ (q : Piece). passes test q ≡ false) same breaks in
    first_is test first.at first.units first.what others ∙ rw t (ap (λ (q : Piece). Some q.at) (sym same))
insn_stops test (first ∷ others) (suc k) p is breaks = insn_stops test others k p is breaks

pub insn_ends : (test : ℕ → RawInsn → Bool) (pieces : List Piece) (k : ℕ) → length pieces ≤ k → first_insn test (drop k pieces) ≡ None
insn_ends test pieces k le = rw (drop_of_length-le pieces le) refl

-- what stands at a place of a list
pub there : {X : Type 0} (xs : List X) (k : ℕ) → k < length xs → (x : X) × (slice_get xs k ≡ Some x)
there [] k lt = absurd (omega arith)
there (x ∷ xs) zero lt = (x, refl)
there (x ∷ xs) (suc k) lt = there xs k (omega arith)

-- the opcode that asks for a piece by its number
pub numbered_fits : (op k : ℕ) (pieces : List Piece) (askers : List (Option ℕ)) (o : Option ℕ) → askers ≡ map (λ (p : Piece). asker p.what) pieces → k < length pieces
    → o ≡ get_or askers k o → asks op o ≡ payload_fits op (payload_in (piece_in pieces (Some k)))
numbered_fits op k pieces askers o are lt is =
    let p = there pieces k lt in
    let mapped : slice_get (map (λ (p : Piece). asker p.what) pieces) k ≡ Some (asker p.0.what) = slice_get-map (λ (p : Piece). asker p.what) pieces k ∙ rw p.1 refl in
    let found = get_or_from_slice_get (map (λ (p : Piece). asker p.what) pieces) k (asker p.0.what) o mapped in
    ap (asks op) (is ∙ ap (λ (os : List (Option ℕ)). get_or os k o) are ∙ found) ∙ asker_fits op p.0.what ∙ rw p.1 refl

-- where no instruction breaks a test, each passes it
pub all_pass : (test : ℕ → RawInsn → Bool) (pieces : List Piece) → first_insn test pieces ≡ None → (k : ℕ) (p : Piece) → slice_get pieces k ≡ Some p → passes test p ≡ true
all_pass test [] e k p is = cc
all_pass test (first ∷ others) e zero p is =
    let e' = none_first (passes test first) first.at (first_insn test others) (sym (first_is test first.at first.units first.what others) ∙ e) in
    let same : first ≡ p = cc in
    subst (λ (q : Piece). passes test q ≡ true) same e'.0
all_pass test (first ∷ others) e (suc k) p is =
    let e' = none_first (passes test first) first.at (first_insn test others) (sym (first_is test first.at first.units first.what others) ∙ e) in
    all_pass test others e'.1 k p is
