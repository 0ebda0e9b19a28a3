-- What is known of texts, as it is found.
use Rattle.std.proofs.Common.{◌≡◌, ℕ, ◌+◌, ◌-◌, ◌<◌, List, ◌∷◌, length, drop, get_or, Option, Some, None, true, false, option_map, refl, ap, ◌∙◌, arith}
use Rattle.std.specs.Prelude.{is_some}
use Rattle.std.proofs.lemmas.List.{drop_more}
use Rattle.pi_format.specs.Rules.Strings.{FileText, units_in}
use Rattle.pi_dexids.specs.declared.tail.Tail.{Tail}
use Rattle.pi_dexids.specs.Tails.{tail_of}

-- the units from the last one on, and one more before them
pub unit_before : (us : List ℕ) (done : ℕ) → done < length us
    → drop (length us - (done + 1)) us ≡ get_or us (length us - 1 - done) 0 ∷ drop (length us - done) us
unit_before us done lt =
    let inside : length us - (done + 1) < length us = omega arith in
    let next : length us - (done + 1) + 1 ≡ length us - done = omega arith in
    let place : length us - (done + 1) ≡ length us - 1 - done = omega arith in
    drop_more us (length us - (done + 1)) 0 inside
    ∙ ap (λ (k : ℕ). get_or us (length us - (done + 1)) 0 ∷ drop k us) next
    ∙ ap (λ (k : ℕ). get_or us k 0 ∷ drop (length us - done) us) place

-- a text that was read, and none
pub tail_of_none : (o : Option FileText) → option_map (λ (t : FileText). t.units) o ≡ None → option_map (λ (t : FileText). tail_of t.units) o ≡ None
tail_of_none None e = refl
tail_of_none (Some t) e = cc

pub tail_of_some : (o : Option FileText) (units : List ℕ) → option_map (λ (t : FileText). t.units) o ≡ Some units
    → option_map (λ (t : FileText). tail_of t.units) o ≡ Some (tail_of units)
tail_of_some None units e = cc
tail_of_some (Some t) units e = ap (option_map tail_of) e

-- what that says of a string
pub string_known : (o : Option FileText) (t : Tail) → option_map (λ (t : FileText). tail_of t.units) o ≡ Some t → t ≡ tail_of (units_in o)
string_known None t e = cc
string_known (Some x) t e = cc

pub is_there : (o : Option FileText) (t : Tail) → option_map (λ (t : FileText). tail_of t.units) o ≡ Some t → is_some o ≡ true
is_there None t e = cc
is_there (Some x) t e = refl

pub is_not_there : (o : Option FileText) → option_map (λ (t : FileText). tail_of t.units) o ≡ None → is_some o ≡ false
is_not_there None e = refl
is_not_there (Some x) e = cc
