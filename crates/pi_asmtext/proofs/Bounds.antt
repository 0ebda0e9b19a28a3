-- Columns behind tokens are at most the length of the text and one.
use Rattle.std.proofs.Common.{◌≡◌, ℕ, zero, suc, pred, ◌+◌, ◌-◌, ◌/◌, ◌%◌, ◌<◌, ◌≤◌, Bool, true, false, inl, inr, List, [], ◌∷◌, ◌++◌, length, take, refl, subst, arith, length-take, add-one}
use Rattle.std.specs.Prelude.{◌==◌, cond, if◌then◌else◌, nat_lt, ◌^◌}
use Rattle.std.specs.Prelude.{not, count_by}
use Rattle.std.proofs.lemmas.List.Recursion.{is_count_by}
use Rattle.std.specs.Char.Escape.{encode_utf16}
use Rattle.std.proofs.lemmas.Bool.{cases_Bool}
use Rattle.std.proofs.lemmas.Bool.Decides.{nat_tests}
use Rattle.pi_asmtext.specs.declared.file.Token.{Token}
use Rattle.pi_asmtext.specs.declared.file.AsmLine.{AsmLine}
use Rattle.pi_asmtext.specs.Tokens.{before_line, lines, token_length, units_of, tokens_from, nonempty_line, lines_from, lines_of}
use Rattle.pi_asmtext.specs.Places.{is_second, width}
use Rattle.pi_asmtext.specs.Walking.{Small, AllSmall}

width_append : (us vs : List ℕ) → width (us ++ vs) ≡ width us + width vs
width_append [] vs = omega arith
width_append (u ∷ us) vs =
    let e = width_append us vs in elim (cases_Bool (is_second u)) [ inl t ↦ rw t e | inr t ↦ rw t (omega arith) ]

width_one : (u : ℕ) → width (u ∷ []) ≤ 1
width_one u = elim (cases_Bool (is_second u)) [ inl t ↦ rw t (omega arith) | inr t ↦ rw t (omega arith) ]

second : (k : ℕ) → k < 0x400 → is_second (0xDC00 + k) ≡ true
second k lt = grind (arith, nat_tests)

width_pair : (u v : ℕ) → is_second v ≡ true → width (u ∷ v ∷ []) ≤ 1
width_pair u v e = by (is_second u) (let z : width (v ∷ []) ≡ 0 = rw e refl in z)
  where
    by : (t : Bool) → width (v ∷ []) ≡ 0 → (if t then width (v ∷ []) else width (v ∷ []) + 1) ≤ 1
    by true e = omega arith
    by false e = omega arith

-- a character is no wider than one
width_char : (c : ℕ) → width (encode_utf16 c) ≤ 1
width_char c = by (nat_lt c 0x1_0000)
  where
    by : (t : Bool) → width (cond t (c ∷ []) ((0xD800 + (c - 0x1_0000) / 0x400) ∷ (0xDC00 + (c - 0x1_0000) % 0x400) ∷ [])) ≤ 1
    by true = width_one c
    by false = width_pair (0xD800 + (c - 0x1_0000) / 0x400) (0xDC00 + (c - 0x1_0000) % 0x400) (second ((c - 0x1_0000) % 0x400) (omega arith))

width_units : (cs : List ℕ) → width (units_of cs) ≤ length cs
width_units [] = omega arith
width_units (c ∷ cs) =
    let a = width_append (encode_utf16 c) (units_of cs) in
    let b = width_char c in
    let i = width_units cs in omega arith

-- columns behind tokens are at most a number
abbrev pub EndWithin : ℕ → List Token → Type 0
EndWithin n [] = Unit {0}
EndWithin n (t ∷ ts) = (t.column + width t.units ≤ n) × EndWithin n ts

abbrev pub LineEndsWithin : ℕ → List ℕ → Type 0
LineEndsWithin column cs = (skip n : ℕ) → column + length cs ≤ n → EndWithin n (tokens_from column skip cs)

token_within : (column : ℕ) (c : ℕ) (cs : List ℕ) (k n : ℕ) → column + length (c ∷ cs) ≤ n
    → column + width (units_of (take k (c ∷ cs))) ≤ n
token_within column c cs k n lt =
    let w = width_units (take k (c ∷ cs)) in
    let l = length-take k (c ∷ cs) in omega arith

from_by : (column c : ℕ) (cs : List ℕ) (n : ℕ) (blank hash : Bool) → (c == 32) ≡ blank → (c == 35) ≡ hash → column + length (c ∷ cs) ≤ n
    → LineEndsWithin (column + 1) cs → EndWithin n (tokens_from column zero (c ∷ cs))
from_by column c cs n true hash s h lt again = rw s (again 0 n (omega arith))
from_by column c cs n false true s h lt again = rw (s, h) tt
from_by column c cs n false false s h lt again =
    rw (s, h) (token_within column c cs (token_length c cs) n lt, again (pred (token_length c cs)) n (omega arith))

from : (column : ℕ) (cs : List ℕ) → LineEndsWithin column cs
from column [] skip n lt = tt
from column (c ∷ cs) zero n lt = from_by column c cs n (c == 32) (c == 35) refl refl lt (from (column + 1) cs)
from column (c ∷ cs) (suc skip) n lt = from (column + 1) cs skip n (omega arith)

-- all lines are at most so long
abbrev pub Short : ℕ → List (List ℕ) → Type 0
Short n [] = Unit {0}
Short n (l ∷ ls) = (length l ≤ n) × Short n ls

longer : (ls : List (List ℕ)) (n : ℕ) → Short n ls → Short (n + 1) ls
longer [] n h = tt
longer (l ∷ ls) n h = (let a = h.0 in omega arith, longer ls n h.1)

before_short : (c : ℕ) (ls : List (List ℕ)) (n : ℕ) → Short n ls → Short (n + 1) (before_line c ls)
before_short c [] n h = (omega arith, tt)
before_short c (l ∷ ls) n h = (let a = h.0 in omega arith, longer ls n h.1)

short : (cs : List ℕ) → Short (length cs) (lines cs)
short [] = tt
short (c ∷ cs) = let P : ℕ → Type 0 = λ n. Short n (lines (c ∷ cs)) in subst P (add-one (length cs)) (by (c == 10) (short cs))
  where
    by : (t : Bool) → Short (length cs) (lines cs) → Short (length cs + 1) (if t then [] ∷ lines cs else before_line c (lines cs))
    by true h = (omega arith, longer (lines cs) (length cs) h)
    by false h = before_short c (lines cs) (length cs) h

small : (ts : List Token) (n : ℕ) → n < 2 ^ 32 → EndWithin n ts → Small ts
small [] n lt h = tt
small (t ∷ ts) n lt h = (let a = h.0 in omega arith, small ts n lt h.1)

nonempty_line_small : (number : ℕ) (ts : List Token) (ls : List AsmLine) → Small ts → AllSmall ls → AllSmall (nonempty_line number ts ls)
nonempty_line_small number [] ls h i = i
nonempty_line_small number (t ∷ ts) ls h i = (h, i)

lines_from_small : (number n : ℕ) (ls : List (List ℕ)) → n + 1 < 2 ^ 32 → Short n ls → AllSmall (lines_from number ls)
lines_from_small number n [] lt h = tt
lines_from_small number n (l ∷ ls) lt h =
    nonempty_line_small number (tokens_from 1 0 l) (lines_from (number + 1) ls)
    (small (tokens_from 1 0 l) (n + 1) lt (from 1 l 0 (n + 1) (let a = h.0 in omega arith)))
    (lines_from_small (number + 1) n ls lt h.1)

-- the columns of a text are numbers of 32 bits
pub text_small : (cs : List ℕ) → length cs + 1 < 2 ^ 32 → AllSmall (lines_of cs)
text_small cs lt = lines_from_small 1 (length cs) (lines cs) lt (short cs)

counts_by : (t : Bool) (n : ℕ) → (if t then n else n + 1) ≡ cond (not t) (1 + n) n
counts_by true n = refl
counts_by false n = omega arith

-- the number of the characters of units is that of the units that are no second halves
pub width_counts : (us : List ℕ) → width us ≡ count_by (λ u. not (is_second u)) us
width_counts us = is_count_by width (λ u. not (is_second u)) refl (λ u vs. counts_by (is_second u) (width vs)) us
