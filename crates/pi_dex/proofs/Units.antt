-- The units of a code item that lies in its file, and the places of those at which rules are broken.
use Rattle.std.proofs.Common.{◌≡◌, ℕ, zero, suc, ◌+◌, ◌-◌, ◌*◌, ◌^◌, ◌<◌, ◌≤◌, List, [], ◌∷◌, length, drop, Option, Some, None, Bool, true, false, refl, sym, ap, ◌∙◌, arith}
use Rattle.std.specs.Prelude.{IfSome}
use Rattle.std.proofs.lemmas.List.{length-drop}
use Rattle.pi_insn.specs.declared.raw.RawInsn.{RawInsn}
use Rattle.pi_bytes.specs.Numbers.{word_at, most_bytes}
use Rattle.pi_format.specs.Rules.CodeItems.{code_lies}
use Rattle.pi_format.specs.Rules.Pieces.{What, Instruction, Payload, Piece, Walk, front_piece, walk_from, walk, code_units, code_walk, first_insn, index_holds, points_well}
use Rattle.pi_codeitem.proofs.Items.{code_in_file}
use Rattle.pi_dexcode.proofs.Walks.{halves_long}
use Rattle.pi_codeitem.specs.Lying.{FillUp, end_of}

pub units_few : (file : List ℕ) (at : ℕ) → code_lies file at ≡ true → at + 16 + 2 * length (code_units file at) ≤ length file
units_few file at lies = rw (halves_long file (at + 16) (word_at file (at + 12))) (code_in_file file at lies)

-- a walk stops at one of the units
abbrev StopsBelow : ℕ → ℕ → Type 0
StopsBelow more stop = (at : ℕ) (units : List ℕ) → (walk_from more at units).stop ≡ Some stop → stop < at + length units

stops_below : (more at : ℕ) (units : List ℕ) (stop : ℕ) → (walk_from more at units).stop ≡ Some stop → stop < at + length units
stops_below more at [] stop e = cc
stops_below zero at (u ∷ units) stop e = let is : at ≡ stop = cc in omega (arith, is)
stops_below (suc more) at (u ∷ units) stop e = by_piece (front_piece at (u ∷ units)) refl (λ a us f. stops_below more a us stop f)
  where
    by_rest : (size : ℕ) (rest : List ℕ) → drop size (u ∷ units) ≡ rest → (walk_from more (at + size) rest).stop ≡ Some stop → StopsBelow more stop → stop < at + length (u ∷ units)
    by_rest size [] is f again = cc
    by_rest size (v ∷ rest) is f again =
        let long : length (u ∷ units) - size ≡ length (v ∷ rest) = sym (length-drop size (u ∷ units)) ∙ ap length is in
        let below = again (at + size) (v ∷ rest) f in
        omega (arith, long, below)

    by_piece : (p : Option Piece) → front_piece at (u ∷ units) ≡ p → StopsBelow more stop → stop < at + length (u ∷ units)
    by_piece None is again = let same : Some at ≡ Some stop = rw is at e in let here : at ≡ stop = cc in omega (arith, here)
    by_piece (Some first) is again = by_rest first.units (drop first.units (u ∷ units)) refl (rw is at e) again

end_below : (units : List ℕ) (stop : Option ℕ) → (walk units).stop ≡ stop → end_of stop (length units) ≤ length units
unfolding walk
end_below units None e = omega arith
end_below units (Some stop) e = omega (arith, stops_below (length units) 0 units stop e)

-- pieces that fill units up begin in them
fill_rises : (from : ℕ) (pieces : List Piece) (to : ℕ) → FillUp from pieces to → from ≤ to
fill_rises from [] to is = omega (arith, is)
fill_rises from (p ∷ ps) to f = omega (arith, fill_rises (from + p.units) ps to f.2)

first_below : (test : ℕ → RawInsn → Bool) (from : ℕ) (pieces : List Piece) (to at : ℕ) → FillUp from pieces to → first_insn test pieces ≡ Some at → at ≤ to
first_below test from [] to at f e = cc
first_below test from (p ∷ ps) to at f e =
    by_what p.what refl (omega (arith, f.0, f.1, fill_rises (from + p.units) ps to f.2)) (λ g. first_below test (from + p.units) ps to at f.2 g)
  where
    by_test : (i : RawInsn) (b : Bool) → p.what ≡ Instruction i → test p.at i ≡ b → p.at ≤ to → (first_insn test ps ≡ Some at → at ≤ to) → at ≤ to
    by_test i true is t begins again = again (rw (is, t) at e)
    by_test i false is t begins again = let same : Some p.at ≡ Some at = rw (is, t) at e in let here : p.at ≡ at = cc in omega (arith, here, begins)

    by_what : (w : What) → p.what ≡ w → p.at ≤ to → (first_insn test ps ≡ Some at → at ≤ to) → at ≤ to
    by_what (Payload d) is begins again = again (rw is at e)
    by_what (Instruction i) is begins again = by_test i (test p.at i) is refl begins again

place_fits : (file : List ℕ) (at unit : ℕ) → length file ≤ most_bytes → code_lies file at ≡ true → unit ≤ length (code_units file at) → at + 16 + 2 * unit < 2 ^ 32
place_fits file at unit few lies le = omega (arith, few, le, units_few file at lies)

pub stop_fits : (file : List ℕ) (at : ℕ) (stop : Option ℕ) → length file ≤ most_bytes → code_lies file at ≡ true → stop ≡ (code_walk file at).stop
    → IfSome stop (λ u. at + 16 + 2 * u < 2 ^ 32)
stop_fits file at None few lies e = _
stop_fits file at (Some stop) few lies e = place_fits file at stop few lies (end_below (code_units file at) (Some stop) (sym e))

pub insn_fits : (file : List ℕ) (at : ℕ) (test : ℕ → RawInsn → Bool) (unit : Option ℕ) → length file ≤ most_bytes → code_lies file at ≡ true
    → ((units : List ℕ) → FillUp 0 (walk units).pieces (end_of (walk units).stop (length units)))
    → unit ≡ first_insn test (code_walk file at).pieces → IfSome unit (λ u. at + 16 + 2 * u < 2 ^ 32)
insn_fits file at test None few lies law e = _
insn_fits file at test (Some unit) few lies law e =
    let units = code_units file at in
    let to : ℕ = end_of (walk units).stop (length units) in
    let inside : to ≤ length units = end_below units ((walk units).stop) refl in
    let below : unit ≤ to = first_below test 0 (walk units).pieces to unit (law units) (sym e) in
    place_fits file at unit few lies (omega (arith, inside, below))

-- what is asked of the pieces of a walk
pub index_is : (f file : List ℕ) (w walked : Walk) → f ≡ file → w ≡ walked
    → first_insn (λ a i. index_holds f i.body) w.pieces ≡ first_insn (λ a i. index_holds file i.body) walked.pieces
index_is f file w walked a b = rw (a, b) refl

pub payload_is : (w walked : Walk) → w ≡ walked → first_insn (points_well w.pieces) w.pieces ≡ first_insn (points_well walked.pieces) walked.pieces
payload_is w walked b = rw b refl
