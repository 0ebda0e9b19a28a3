-- The payloads of a walk stand whole, and the indices of its instructions are there.
use Rattle.std.proofs.Common.{◌≡◌, ℕ, zero, suc, ◌+◌, ◌<◌, ◌≤◌, List, [], ◌∷◌, length, drop, Option, Some, None, Result, Ok, Err, Bool, true, refl, sym, ap, ◌⊎◌, inl, inr, arith, subst, length-drop}
use Rattle.std.specs.Prelude.{◌%◌, ◌==◌, ℤ, pos, ◌+ℤ◌}
use Rattle.std.specs.List.{All}
use Rattle.std.proofs.lemmas.List.Elements.{All-nil, All-cons, All-head, All-tail}
use Rattle.pi_insn.specs.declared.raw.RawInsn.{RawInsn}
use Rattle.pi_insn.specs.declared.raw.InsnError.{InsnError}
use Rattle.pi_insn.specs.Reading.{insn_in}
use Rattle.pi_insn.specs.Payloads.{Data, payload}
use Rattle.pi_bytes.specs.Numbers.{word_at, halves_at, most_bytes}
use Rattle.pi_format.specs.Rules.CodeItems.{code_lies}
use Rattle.pi_format.specs.Rules.Pieces.{Piece, address, payload_found, found_at, payload_of, What, Instruction, Payload, Walk, payload_units, front_piece, with_piece, walk_from, walk, code_units, first_insn, index_holds}
use Rattle.pi_format.proofs.Loops.{none_first}
use Rattle.pi_codeitem.proofs.Items.{code_in_file}
use Rattle.pi_dexcode.specs.Whole.{IsWhole, WhatIsWhole, AreWhole, WhatIsThere, NamesIndex}
use Rattle.pi_dexcode.proofs.Payloads.{payload_whole, if_either}

abbrev piece : ℕ → ℕ → What → Piece
piece at units what = record { at = at; units = units; what = what }

front_whole : (at : ℕ) (units : List ℕ) (p : Piece) → length units ≤ most_bytes → front_piece at units ≡ Some p → WhatIsWhole p.what
front_whole at units p few e = by_read (insn_in units) (payload units) refl refl e
  where
    by_read : (r : Result (RawInsn × ℕ) InsnError) (o : Option Data) → insn_in units ≡ r → payload units ≡ o → front_piece at units ≡ Some p → WhatIsWhole p.what
    by_read (Ok x) o read lent e =
        let is : Some (piece at x.1 (Instruction x.0)) ≡ Some p = rw read at e in
        let same : piece at x.1 (Instruction x.0) ≡ p = cc in
        subst (λ (q : Piece). WhatIsWhole q.what) same tt
    by_read (Err fault) None read lent e =
        let is : None ≡ Some p = rw (read, lent) at e in
        cc
    by_read (Err fault) (Some d) read lent e =
        let is : Some (piece at (payload_units d) (Payload d)) ≡ Some p = rw (read, lent) at e in
        let same : piece at (payload_units d) (Payload d) ≡ p = cc in
        subst (λ (q : Piece). WhatIsWhole q.what) same (payload_whole units d few lent)

step : (more at : ℕ) (units : List ℕ) (p : Piece) → 0 < length units → front_piece at units ≡ Some p
    → walk_from (suc more) at units ≡ with_piece p (walk_from more (at + p.units) (drop p.units units))
step more at [] p some e = absurd (omega arith)
step more at (u ∷ units) p some e = rw e refl

halt : (more at : ℕ) (units : List ℕ) → 0 < length units → front_piece at units ≡ None → walk_from (suc more) at units ≡ record { pieces = []; stop = Some at }
halt more at [] some e = absurd (omega arith)
halt more at (u ∷ units) some e = rw e refl

whole_step : (more at : ℕ) (units : List ℕ) (o : Option Piece) → front_piece at units ≡ o → 0 < length units → length units ≤ most_bytes
    → ((n : ℕ) → length (drop n units) ≤ most_bytes → AreWhole (walk_from more (at + n) (drop n units)).pieces) → AreWhole (walk_from (suc more) at units).pieces
whole_step more at units None found some few later =
    subst (λ (w : Walk). AreWhole w.pieces) (sym (halt more at units some found)) (All-nil (λ (p : Piece). WhatIsWhole p.what))
whole_step more at units (Some p) found some few later =
    let rest = walk_from more (at + p.units) (drop p.units units) in
    let short : length (drop p.units units) ≤ most_bytes = omega (arith, length-drop p.units units) in
    subst (λ (w : Walk). AreWhole w.pieces) (sym (step more at units p some found))
    (All-cons (λ (p : Piece). WhatIsWhole p.what) p rest.pieces (front_whole at units p few found) (later p.units short))

whole_from : (more at : ℕ) (units : List ℕ) → length units ≤ most_bytes → AreWhole (walk_from more at units).pieces
whole_from more at [] few = All-nil (λ (p : Piece). WhatIsWhole p.what)
whole_from zero at (u ∷ units) few = All-nil (λ (p : Piece). WhatIsWhole p.what)
whole_from (suc more) at (u ∷ units) few =
    whole_step more at (u ∷ units) (front_piece at (u ∷ units)) refl (omega arith) few (λ n l. whole_from more (at + n) (drop n (u ∷ units)) l)

pub walk_whole : (units : List ℕ) → length units ≤ most_bytes → AreWhole (walk units).pieces
unfolding walk
walk_whole units few = whole_from (length units) 0 units few

-- the payload that an instruction points at stands whole
found_first : (a units at : ℕ) (w : What) (ps : List Piece) (d : Data) → payload_found (piece a units w ∷ ps) at ≡ Some d → WhatIsWhole w
    → (payload_found ps at ≡ Some d → IsWhole d) → IsWhole d
found_first a units at (Instruction i) ps d e whole later = by_place (if_either (a == at) None (payload_found ps at) (Some d) e)
  where
    by_place : (None ≡ Some d) ⊎ (payload_found ps at ≡ Some d) → IsWhole d
    by_place (inl f) = cc
    by_place (inr f) = later f
found_first a units at (Payload x) ps d e whole later = by_place (if_either (a == at) (Some x) (payload_found ps at) (Some d) e)
  where
    by_place : (Some x ≡ Some d) ⊎ (payload_found ps at ≡ Some d) → IsWhole d
    by_place (inl f) =
        let same : x ≡ d = cc in
        subst IsWhole same whole
    by_place (inr f) = later f

found_whole : (pieces : List Piece) (at : ℕ) (d : Data) → AreWhole pieces → payload_found pieces at ≡ Some d → IsWhole d
found_whole [] at d whole e = cc
found_whole (p ∷ ps) at d whole e =
    found_first p.at p.units at p.what ps d e (All-head (λ (p : Piece). WhatIsWhole p.what) p ps whole)
    (found_whole ps at d (All-tail (λ (p : Piece). WhatIsWhole p.what) p ps whole))

place_whole : (pieces : List Piece) (o : Option ℕ) (d : Data) → AreWhole pieces → found_at pieces o ≡ Some d → IsWhole d
place_whole pieces None d whole e = cc
place_whole pieces (Some at) d whole e = by_place (if_either (at % 2 == 0) (payload_found pieces at) None (Some d) e)
  where
    by_place : (payload_found pieces at ≡ Some d) ⊎ (None ≡ Some d) → IsWhole d
    by_place (inl f) = found_whole pieces at d whole f
    by_place (inr f) = cc

pub pointed_whole : (pieces : List Piece) (at : ℕ) (dist : ℤ) (d : Data) → AreWhole pieces → payload_of pieces at dist ≡ Some d → IsWhole d
pointed_whole pieces at dist d whole e = place_whole pieces (address (pos at +ℤ dist)) d whole e

-- as many units as the head says, which are in the file
pub halves_long : (file : List ℕ) (at n : ℕ) → length (halves_at file at n) ≡ n
halves_long file at zero = refl
halves_long file at (suc n) = ap suc (halves_long file (at + 2) n)

pub units_short : (file : List ℕ) (at : ℕ) → length file ≤ most_bytes → code_lies file at ≡ true → length (code_units file at) ≤ most_bytes
units_short file at few lies = omega (arith, few, code_in_file file at lies, halves_long file (at + 16) (word_at file (at + 12)))

-- where no instruction has an index that is not there, each has one that is
abbrev pub has_index : List ℕ → ℕ → RawInsn → Bool
has_index file at i = index_holds file i.body

index_there : (file : List ℕ) (at units : ℕ) (w : What) (ps : List Piece) → first_insn (has_index file) (piece at units w ∷ ps) ≡ None
    → WhatIsThere file w × (first_insn (has_index file) ps ≡ None)
index_there file at units (Payload d) ps e = (tt, e)
index_there file at units (Instruction i) ps e = none_first (index_holds file i.body) at (first_insn (has_index file) ps) e

pub indices_there : (file : List ℕ) (pieces : List Piece) → first_insn (λ a i. index_holds file i.body) pieces ≡ None → All (NamesIndex file) pieces
indices_there file [] e = All-nil (NamesIndex file)
indices_there file (p ∷ ps) e =
    let here = index_there file p.at p.units p.what ps e in
    All-cons (NamesIndex file) p ps here.0 (indices_there file ps here.1)
