-- Payloads end behind each of their beginnings.
use Rattle.std.proofs.Common.{◌≡◌, ℕ, ◌<◌, ◌≤◌, List, [], ◌∷◌, length, drop, get_or, suc, sym, ap, subst, ◌∙◌, arith, drop-cons}
use Rattle.pi_model.specs.declared.describe.Line.{Line}
use Rattle.pi_classtables.specs.Layout.{next_data}
use Rattle.pi_dexcodes.specs.Front.{data_for, end_of_data}

pub at_most_next : (at : ℕ) (units : List ℕ) → at ≤ next_data at units
at_most_next at [] = omega arith
at_most_next at (u ∷ us) = omega arith

pub at_most_end : (listed : List ℕ) (at : ℕ) (lines : List Line) → at ≤ end_of_data listed at lines
at_most_end listed at [] = omega arith
at_most_end listed at (l ∷ ls) =
    omega (arith, at_most_next at (data_for listed l), at_most_end listed (next_data at (data_for listed l)) ls)

-- and so does the payload of each instruction
first_near : (listed : List ℕ) (at bound : ℕ) (l : Line) (lines : List Line)
    → end_of_data listed at (l ∷ lines) ≤ bound → next_data at (data_for listed l) ≤ bound
first_near listed at bound l lines near = omega (arith, at_most_end listed (next_data at (data_for listed l)) lines)

pub item_near : (listed : List ℕ) (at bound k : ℕ) (l : Line) (lines : List Line) → k < length lines → l ≡ get_or lines k l
    → end_of_data listed at (drop k lines) ≤ bound → next_data at (data_for listed l) ≤ bound
item_near listed at bound k l lines inside is near =
    let split : drop k lines ≡ get_or lines k l ∷ drop (suc k) lines = drop-cons lines k l inside in
    let same : drop k lines ≡ l ∷ drop (suc k) lines = split ∙ sym (ap (λ x. x ∷ drop (suc k) lines) is) in
    first_near listed at bound l (drop (suc k) lines) (subst (λ xs. end_of_data listed at xs ≤ bound) same near)
