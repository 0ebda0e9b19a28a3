-- The pieces of a walk: how many units each takes, and that each is sound by itself.
use Rattle.std.proofs.Common.{◌≡◌, ℕ, zero, suc, ◌+◌, ◌<◌, ◌≤◌, List, [], ◌∷◌, length, drop, Option, Some, None, Result, Ok, Err, Bool, true, false, refl, sym, ap, subst, arith, lit≤}
use Rattle.std.specs.Prelude.{◌/◌, ◌%◌, nat_lt, if◌then◌else◌}
use Rattle.std.specs.List.{list_all}
use Rattle.std.proofs.lemmas.Bool.{and_from, lt-ltb, ltb-false}
use Rattle.pi_bytes.specs.Numbers.{half_at, halves_at, word_at}
use Rattle.pi_insn.specs.declared.raw.RawInsn.{RawInsn}
use Rattle.pi_insn.specs.declared.raw.InsnError.{InsnError}
use Rattle.pi_insn.specs.declared.raw.InsnError.TheVariants.{Unsupported, Cut}
use Rattle.pi_insn.specs.declared.table.Row.{Row}
use Rattle.pi_insn.specs.declared.table.Row.TheVariants.{F10x, F12x, F11n, F11x, F10t, F20t, F22x, F21t, F21s, F21h, F21c, F23x, F22b, F22t, F22s, F22c, F30t, F32x, F31i, F31t, F31c, F35c, F3rc, F51l}
use Rattle.pi_insn.specs.Table.{row_of, units_of, refuses}
use Rattle.pi_insn.specs.Reading.{insn, body_of, row_insn, insn_where, insn_in}
use Rattle.pi_insn.specs.Payloads.{Data, payload}
use Rattle.pi_format.specs.Rules.Pieces.{Piece, Walk, What, Instruction, Payload, front_piece, payload_units, with_piece, walk_from, walk, code_units, code_walk}
use Rattle.pi_said.proofs.Facts.{half_small}
use Rattle.pi_saidkeeps.specs.Chains.{AreBytes}
use Rattle.pi_saidkeeps.proofs.Opcodes.{named_well, read_named}
use Rattle.pi_saidkeeps.proofs.Payloads.{is_unit, are_units, units_drop, fits_whole, payload_there}

row_size : (row : Row) → 1 ≤ units_of row
row_size (F10x w) = lit≤ tt
row_size (F12x w) = lit≤ tt
row_size F11n = lit≤ tt
row_size (F11x w) = lit≤ tt
row_size F10t = lit≤ tt
row_size F20t = lit≤ tt
row_size (F22x k) = lit≤ tt
row_size (F21t c) = lit≤ tt
row_size (F21s w) = lit≤ tt
row_size (F21h w) = lit≤ tt
row_size (F21c w) = lit≤ tt
row_size (F23x w) = lit≤ tt
row_size (F22b op) = lit≤ tt
row_size (F22t c) = lit≤ tt
row_size (F22s op) = lit≤ tt
row_size (F22c w) = lit≤ tt
row_size F30t = lit≤ tt
row_size (F32x k) = lit≤ tt
row_size (F31i w) = lit≤ tt
row_size (F31t w) = lit≤ tt
row_size F31c = lit≤ tt
row_size (F35c w) = lit≤ tt
row_size (F3rc w) = lit≤ tt
row_size F51l = lit≤ tt

abbrev read_cases : Bool → Bool → ℕ → RawInsn × ℕ → Result (RawInsn × ℕ) InsnError
read_cases a b op found = if a then Err (Unsupported op) else if b then Err Cut else Ok found

read_size : (op : ℕ) (row : Row) (high : ℕ) (rest : List ℕ) (i : RawInsn) (n : ℕ) → row_insn op row high rest ≡ Ok (i, n) → (1 ≤ n) × (n ≤ length rest + 1)
unfolding row_insn
read_size op row high rest i n e = by_test (refuses row high) (nat_lt (length rest + 1) (units_of row)) refl e
  where
    by_test : (a b : Bool) → nat_lt (length rest + 1) (units_of row) ≡ b
        → read_cases a b op (insn op (body_of row high rest), units_of row) ≡ Ok (i, n)
        → (1 ≤ n) × (n ≤ length rest + 1)
    by_test true b short e = cc
    by_test false true short e = cc
    by_test false false short e =
        let found : RawInsn × ℕ = (insn op (body_of row high rest), units_of row) in
        let wanted : RawInsn × ℕ = (i, n) in
        let same : found ≡ wanted = cc in
        let size : units_of row ≡ n = ap (λ (x : RawInsn × ℕ). x.1) same in
        let fits = ltb-false (length rest + 1) (units_of row) short in
        let some = row_size row in
        (omega arith, omega arith)

where_size : (op : ℕ) (row : Option Row) (high : ℕ) (rest : List ℕ) (i : RawInsn) (n : ℕ) → insn_where op row high rest ≡ Ok (i, n) → (1 ≤ n) × (n ≤ length rest + 1)
where_size op None high rest i n e = cc
where_size op (Some row) high rest i n e = read_size op row high rest i n e

insn_size : (units : List ℕ) (i : RawInsn) (n : ℕ) → insn_in units ≡ Ok (i, n) → (1 ≤ n) × (n ≤ length units)
insn_size [] i n e = cc
insn_size (unit ∷ rest) i n e =
    let size = where_size (unit % 256) (row_of (unit % 256)) (unit / 256) rest i n e in
    (size.0, omega (arith, size.1))

-- an instruction has the opcode of what it is, and the parts of a payload fit each other
abbrev pub is_sound : What → Bool
is_sound (Instruction i) = named_well i.op i.body
is_sound (Payload d) = fits_whole d

-- a piece at the front of units
pub record IsFront (at : ℕ) (units : List ℕ) (p : Piece) : Type 0 where
  pub begins : p.at ≡ at
  pub some : 1 ≤ p.units
  pub inside : p.units ≤ length units
  pub sound : are_units units ≡ true → is_sound p.what ≡ true

abbrev piece : ℕ → ℕ → What → Piece
piece at units what = record { at = at; units = units; what = what }

pub front_is : (at : ℕ) (units : List ℕ) (p : Piece) → front_piece at units ≡ Some p → IsFront at units p
front_is at units p e = by_read (insn_in units) (payload units) refl refl e
  where
    by_read : (r : Result (RawInsn × ℕ) InsnError) (o : Option Data) → insn_in units ≡ r → payload units ≡ o → front_piece at units ≡ Some p → IsFront at units p
    by_read (Ok x) o seen lent e =
        let size = insn_size units x.0 x.1 seen in
        let is : Some (piece at x.1 (Instruction x.0)) ≡ Some p = rw seen at e in
        let same : piece at x.1 (Instruction x.0) ≡ p = cc in
        subst (IsFront at units) same (record { begins = refl; some = size.0; inside = size.1; sound = λ all. read_named units x.0 x.1 seen })
    by_read (Err fault) None seen lent e =
        let is : None ≡ Some p = rw (seen, lent) at e in
        cc
    by_read (Err fault) (Some d) seen lent e =
        let there = payload_there units d lent in
        let is : Some (piece at (payload_units d) (Payload d)) ≡ Some p = rw (seen, lent) at e in
        let same : piece at (payload_units d) (Payload d) ≡ p = cc in
        subst (IsFront at units) same (record { begins = refl; some = there.some; inside = there.inside; sound = there.whole })

-- what one piece more leaves of a walk
pub step : (more at : ℕ) (units : List ℕ) (p : Piece) → 0 < length units → front_piece at units ≡ Some p
    → walk_from (suc more) at units ≡ with_piece p (walk_from more (at + p.units) (drop p.units units))
step more at [] p some e = absurd (omega arith)
step more at (u ∷ units) p some e = rw e refl

pub halt : (more at : ℕ) (units : List ℕ) → 0 < length units → front_piece at units ≡ None → walk_from (suc more) at units ≡ record { pieces = []; stop = Some at }
halt more at [] some e = absurd (omega arith)
halt more at (u ∷ units) some e = rw e refl

abbrev pub piece_sound : Piece → Bool
piece_sound p = is_sound p.what

sound_step : (more at : ℕ) (units : List ℕ) (o : Option Piece) → front_piece at units ≡ o → 0 < length units → are_units units ≡ true
    → ((n : ℕ) → list_all piece_sound (walk_from more (at + n) (drop n units)).pieces ≡ true)
    → list_all piece_sound (walk_from (suc more) at units).pieces ≡ true
sound_step more at units None found some all later =
    subst (λ (w : Walk). list_all piece_sound w.pieces ≡ true) (sym (halt more at units some found)) refl
sound_step more at units (Some p) found some all later =
    subst (λ (w : Walk). list_all piece_sound w.pieces ≡ true) (sym (step more at units p some found))
    (and_from (piece_sound p) (list_all piece_sound (walk_from more (at + p.units) (drop p.units units)).pieces)
    ((front_is at units p found).sound all) (later p.units))

sound_from : (more at : ℕ) (units : List ℕ) → are_units units ≡ true → list_all piece_sound (walk_from more at units).pieces ≡ true
sound_from more at [] all = refl
sound_from zero at (u ∷ units) all = refl
sound_from (suc more) at (u ∷ units) all =
    sound_step more at (u ∷ units) (front_piece at (u ∷ units)) refl (omega arith) all
    (λ n. sound_from more (at + n) (drop n (u ∷ units)) (units_drop n (u ∷ units) all))

-- the units of a code are units where the file is one of bytes
halves_are : (file : List ℕ) (at n : ℕ) → AreBytes file → are_units (halves_at file at n) ≡ true
halves_are file at zero bytes = refl
halves_are file at (suc n) bytes =
    and_from (is_unit (half_at file at)) (are_units (halves_at file (at + 2) n)) (lt-ltb (half_at file at) 65536 (half_small file at bytes)) (halves_are file (at + 2) n bytes)

pub pieces_sound : (file : List ℕ) (at : ℕ) → AreBytes file → list_all piece_sound (code_walk file at).pieces ≡ true
unfolding walk
pieces_sound file at bytes = sound_from (length (code_units file at)) 0 (code_units file at) (halves_are file (at + 16) (word_at file (at + 12)) bytes)
