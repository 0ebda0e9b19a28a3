-- The pieces of a walk stand one behind the other.
use Rattle.std.proofs.Common.{◌≡◌, ℕ, zero, suc, ◌+◌, ◌<◌, ◌≤◌, List, [], ◌∷◌, length, drop, Option, Some, None, refl, sym, ap, arith, subst, length-drop, add-zero, zero-add, lit≤}
use Rattle.std.specs.Prelude.{Result, Ok, Err, nat_lt, Bool, true, false, if◌then◌else◌, ◌%◌, ◌/◌}
use Rattle.std.proofs.lemmas.Bool.Decides.{nat_tests}
use Rattle.pi_insn.specs.declared.raw.RawInsn.{RawInsn}
use Rattle.pi_insn.specs.declared.raw.InsnError.{InsnError}
use Rattle.pi_insn.specs.declared.raw.InsnError.TheVariants.{Unsupported, Cut}
use Rattle.pi_insn.specs.declared.table.Row.{Row}
use Rattle.pi_insn.specs.declared.table.Row.TheVariants.{F10x, F12x, F11n, F11x, F10t, F20t, F22x, F21t, F21s, F21h, F21c, F23x, F22b, F22t, F22s, F22c, F30t, F32x, F31i, F31t, F31c, F35c, F3rc, F51l}
use Rattle.pi_insn.specs.Table.{row_of, units_of, refuses}
use Rattle.pi_insn.specs.Reading.{insn, body_of, row_insn, insn_where, insn_in}
use Rattle.pi_insn.specs.Payloads.{Data, payload}
use Rattle.pi_format.specs.Rules.Pieces.{Piece, Walk, What, Instruction, Payload, front_piece, payload_units, walk_from, walk}
use Rattle.pi_codeitem.specs.Lying.{FillUp, end_of}
use Rattle.pi_codeitem.proofs.Fronts.{payload_front}
use Rattle.pi_codeitem.proofs.Walked.{step, halt}

abbrev piece : ℕ → ℕ → What → Piece
piece at units what = record { at = at; units = units; what = what }

row_size : (row : Row) → 1 ≤ units_of row
row_size (F10x w) = lit≤ tt
row_size (F12x w) = lit≤ tt
row_size F11n = lit≤ tt
row_size (F11x w) = lit≤ tt
row_size F10t = lit≤ tt
row_size F20t = lit≤ tt
row_size (F22x k) = lit≤ tt
row_size (F21t c) = lit≤ tt
row_size (F21s w) = lit≤ tt
row_size (F21h w) = lit≤ tt
row_size (F21c w) = lit≤ tt
row_size (F23x w) = lit≤ tt
row_size (F22b op) = lit≤ tt
row_size (F22t c) = lit≤ tt
row_size (F22s op) = lit≤ tt
row_size (F22c w) = lit≤ tt
row_size F30t = lit≤ tt
row_size (F32x k) = lit≤ tt
row_size (F31i w) = lit≤ tt
row_size (F31t w) = lit≤ tt
row_size F31c = lit≤ tt
row_size (F35c w) = lit≤ tt
row_size (F3rc w) = lit≤ tt
row_size F51l = lit≤ tt

abbrev read_cases : Bool → Bool → ℕ → Row → ℕ → List ℕ → Result (RawInsn × ℕ) InsnError
read_cases a b op row high rest = if a then Err (Unsupported op) else if b then Err Cut else Ok (insn op (body_of row high rest), units_of row)

read_size : (op : ℕ) (row : Row) (high : ℕ) (rest : List ℕ) (i : RawInsn) (n : ℕ) → row_insn op row high rest ≡ Ok (i, n) → (1 ≤ n) × (n ≤ length rest + 1)
unfolding row_insn
read_size op row high rest i n e = by_test (refuses row high) (nat_lt (length rest + 1) (units_of row)) refl e
  where
    by_test : (a b : Bool) → nat_lt (length rest + 1) (units_of row) ≡ b
        → read_cases a b op row high rest ≡ Ok (i, n)
        → (1 ≤ n) × (n ≤ length rest + 1)
    by_test true b short e = cc
    by_test false true short e = cc
    by_test false false short e =
        let found : RawInsn × ℕ = (insn op (body_of row high rest), units_of row) in
        let wanted : RawInsn × ℕ = (i, n) in
        let same : found ≡ wanted = cc in
        let size : units_of row ≡ n = ap (λ (x : RawInsn × ℕ). x.1) same in
        let some = row_size row in
        let fits : units_of row ≤ length rest + 1 = grind (arith, nat_tests) in
        (omega arith, omega arith)

where_size : (op : ℕ) (row : Option Row) (high : ℕ) (rest : List ℕ) (i : RawInsn) (n : ℕ) → insn_where op row high rest ≡ Ok (i, n) → (1 ≤ n) × (n ≤ length rest + 1)
where_size op None high rest i n e = cc
where_size op (Some row) high rest i n e = read_size op row high rest i n e

insn_size : (units : List ℕ) (i : RawInsn) (n : ℕ) → insn_in units ≡ Ok (i, n) → (1 ≤ n) × (n ≤ length units)
insn_size [] i n e = cc
insn_size (unit ∷ rest) i n e =
    let size = where_size (unit % 256) (row_of (unit % 256)) (unit / 256) rest i n e in
    (size.0, omega (arith, size.1))

pub front_size : (at : ℕ) (units : List ℕ) (p : Piece) → front_piece at units ≡ Some p → (p.at ≡ at) × (1 ≤ p.units) × (p.units ≤ length units)
front_size at units p e = by_read (insn_in units) (payload units) refl refl e
  where
    by_read : (r : Result (RawInsn × ℕ) InsnError) (o : Option Data) → insn_in units ≡ r → payload units ≡ o → front_piece at units ≡ Some p
        → (p.at ≡ at) × (1 ≤ p.units) × (p.units ≤ length units)
    by_read (Ok x) o seen lent e =
        let size = insn_size units x.0 x.1 seen in
        let is : Some (piece at x.1 (Instruction x.0)) ≡ Some p = rw seen at e in
        let same : piece at x.1 (Instruction x.0) ≡ p = cc in
        let n : x.1 ≡ p.units = ap (λ (q : Piece). q.units) same in
        (sym (ap (λ (q : Piece). q.at) same), omega (arith, n, size.0), omega (arith, n, size.1))
    by_read (Err fault) None seen lent e =
        let is : None ≡ Some p = rw (seen, lent) at e in
        cc
    by_read (Err fault) (Some d) seen lent e =
        let size = payload_front units d lent in
        let is : Some (piece at (payload_units d) (Payload d)) ≡ Some p = rw (seen, lent) at e in
        let same : piece at (payload_units d) (Payload d) ≡ p = cc in
        let n : payload_units d ≡ p.units = ap (λ (q : Piece). q.units) same in
        (sym (ap (λ (q : Piece). q.at) same), omega (arith, n, size.0), omega (arith, n, size.1))

fills_step : (more at : ℕ) (units : List ℕ) (o : Option Piece) → front_piece at units ≡ o → 0 < length units → length units ≤ suc more
    → ((n : ℕ) → length (drop n units) ≤ more
    → FillUp (at + n) (walk_from more (at + n) (drop n units)).pieces (end_of (walk_from more (at + n) (drop n units)).stop (at + n + length (drop n units))))
    → FillUp at (walk_from (suc more) at units).pieces (end_of (walk_from (suc more) at units).stop (at + length units))
fills_step more at units None found some le later =
    subst (λ (w : Walk). FillUp at w.pieces (end_of w.stop (at + length units))) (sym (halt more at units some found)) refl
fills_step more at units (Some p) found some le later =
    let size = front_size at units p found in
    let rest = walk_from more (at + p.units) (drop p.units units) in
    let short : length (drop p.units units) ≤ more = omega (arith, length-drop p.units units, size.1) in
    let end : at + p.units + length (drop p.units units) ≡ at + length units = omega (arith, length-drop p.units units, size.2) in
    let others = subst (λ (n : ℕ). FillUp (at + p.units) rest.pieces (end_of rest.stop n)) end (later p.units short) in
    subst (λ (w : Walk). FillUp at w.pieces (end_of w.stop (at + length units))) (sym (step more at units p some found)) (size.0, size.1, others)

fills_from : (more at : ℕ) (units : List ℕ) → length units ≤ more → FillUp at (walk_from more at units).pieces (end_of (walk_from more at units).stop (at + length units))
fills_from more at [] le = sym (add-zero at)
fills_from zero at (u ∷ units) le = absurd (omega arith)
fills_from (suc more) at (u ∷ units) le =
    fills_step more at (u ∷ units) (front_piece at (u ∷ units)) refl (omega arith) le (λ n l. fills_from more (at + n) (drop n (u ∷ units)) l)

pub walk_fills : (units : List ℕ) → FillUp 0 (walk units).pieces (end_of (walk units).stop (length units))
unfolding walk
walk_fills units =
    subst (λ (n : ℕ). FillUp 0 (walk_from (length units) 0 units).pieces (end_of (walk_from (length units) 0 units).stop n)) (zero-add (length units))
    (fills_from (length units) 0 units (omega arith))
