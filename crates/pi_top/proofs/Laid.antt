-- Instructions that lie one behind another: the one at a place is the one that the machine finds at its address.
use Rattle.std.proofs.Common.{◌≡◌, ℕ, zero, suc, ◌+◌, ◌<◌, ◌≤◌, true, false, List, [], ◌∷◌, Some, arith, ap, subst}
use Rattle.std.proofs.lemmas.Bool.Decides.{nat_tests}
use Rattle.std.specs.Prelude.{nat_lt, slice_get, ◌&&◌, ◌==◌, find}
use Rattle.pi_model.specs.declared.describe.Line.{Line}
use Rattle.pi_format.specs.Says.Facts.{laid_from}
use Rattle.pi_machine.proofs.Truths.{both, same_of, same_self, some_same}
use Rattle.pi_top.proofs.Words.{lt_of}

not_equal : (a b : ℕ) → a < b → (a == b) ≡ false
not_equal a b h = grind (arith, nat_tests)

-- the parts of the test at the first instruction
record LaidHere (start : ℕ) (l : Line) (ls : List Line) : Type 0 where
  here : l.at ≡ start
  some : 0 < l.units
  rest : laid_from (start + l.units) ls ≡ true

laid_here : (start : ℕ) (l : Line) (ls : List Line) → laid_from start (l ∷ ls) ≡ true → LaidHere start l ls
laid_here start l ls e =
    let a : ((l.at == start) ≡ true) × ((nat_lt 0 l.units && laid_from (start + l.units) ls) ≡ true) = both _ _ e in
    let b : (nat_lt 0 l.units ≡ true) × (laid_from (start + l.units) ls ≡ true) = both _ _ a.1 in
    record { here = same_of l.at start a.0; some = lt_of 0 l.units b.0; rest = b.1 }

at_least : (start : ℕ) (ls : List Line) (i : ℕ) (m : Line) → laid_from start ls ≡ true → slice_get ls i ≡ Some m → start ≤ m.at
at_least start [] i m e g = cc
at_least start (l ∷ ls) zero m e g =
    let h : LaidHere start l ls = laid_here start l ls e in
    let same : l ≡ m = some_same l m g in
    let k : l.at ≡ m.at = ap (λ (x : Line). x.at) same in
    omega (arith, h.here, k)
at_least start (l ∷ ls) (suc i) m e g =
    let h : LaidHere start l ls = laid_here start l ls e in
    omega (arith, at_least (start + l.units) ls i m h.rest g)

pub find_laid : (start : ℕ) (ls : List Line) (i : ℕ) (m : Line) → laid_from start ls ≡ true → slice_get ls i ≡ Some m
    → find (λ (l : Line). l.at == m.at) ls ≡ Some m
find_laid start [] i m e g = cc
find_laid start (l ∷ ls) zero m e g =
    let same : l ≡ m = some_same l m g in
    let k : (l.at == m.at) ≡ true = subst (λ (x : Line). (l.at == x.at) ≡ true) same (same_self l.at) in
    rw k g
find_laid start (l ∷ ls) (suc i) m e g =
    let h : LaidHere start l ls = laid_here start l ls e in
    let k : start + l.units ≤ m.at = at_least (start + l.units) ls i m h.rest g in
    let n : (l.at == m.at) ≡ false = not_equal l.at m.at (omega (arith, h.here, h.some, k)) in
    rw n (find_laid (start + l.units) ls i m h.rest g)

pub next_laid : (start : ℕ) (ls : List Line) (i : ℕ) (m n : Line) → laid_from start ls ≡ true → slice_get ls i ≡ Some m → slice_get ls (suc i) ≡ Some n
    → n.at ≡ m.at + m.units
next_laid start [] i m n e g f = cc
next_laid start (l ∷ []) zero m n e g f = cc
next_laid start (l ∷ k ∷ ls) zero m n e g f =
    let h : LaidHere start l (k ∷ ls) = laid_here start l (k ∷ ls) e in
    let j : LaidHere (start + l.units) k ls = laid_here (start + l.units) k ls h.rest in
    let a : l ≡ m = some_same l m g in
    let b : k ≡ n = some_same k n f in
    let c : l.at ≡ m.at = ap (λ (x : Line). x.at) a in
    let u : l.units ≡ m.units = ap (λ (x : Line). x.units) a in
    let v : k.at ≡ n.at = ap (λ (x : Line). x.at) b in
    omega (arith, h.here, j.here, c, u, v)
next_laid start (l ∷ ls) (suc i) m n e g f =
    let h : LaidHere start l ls = laid_here start l ls e in
    next_laid (start + l.units) ls i m n h.rest g f

pub first_laid : (start : ℕ) (ls : List Line) (m : Line) → laid_from start ls ≡ true → slice_get ls 0 ≡ Some m → m.at ≡ start
first_laid start [] m e g = cc
first_laid start (l ∷ ls) m e g =
    let h : LaidHere start l ls = laid_here start l ls e in
    let k : l.at ≡ m.at = ap (λ (x : Line). x.at) (some_same l m g) in
    omega (arith, h.here, k)
