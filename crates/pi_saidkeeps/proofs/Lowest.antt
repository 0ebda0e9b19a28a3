-- A rule on the codes of a file that is not broken holds of the code of each method.
use Rattle.std.proofs.Common.{◌≡◌, ℕ, zero, suc, ◌+◌, ◌<◌, List, [], ◌∷◌, Bool, true, false, Option, Some, None, refl, subst, arith, add-zero}
use Rattle.std.specs.Prelude.{not, nat_le, is_some, if◌then◌else◌}
use Rattle.std.specs.List.{list_all}
use Rattle.std.proofs.lemmas.Bool.{and_from}
use Rattle.pi_format.specs.Tables.{count_at, class_defs}
use Rattle.pi_format.specs.Rules.Lowest.{lower, lowest_from, lowest_of}
use Rattle.pi_format.specs.Rules.Rows.{MemberRow}
use Rattle.pi_format.specs.Rules.ClassData.{rows_of, methods_in}
use Rattle.pi_format.specs.Rules.CodeItems.{of_code, lowest_in_code}

-- no place is the lowest of two only where neither is one
none_lower : (a b : Option ℕ) → lower a b ≡ None → (a ≡ None) × (b ≡ None)
none_lower None b e = (refl, e)
none_lower (Some a) None e = cc
none_lower (Some a) (Some b) e = by_test (nat_le a b) e
  where
    by_test : (t : Bool) → (if t then Some a else Some b) ≡ None → (Some a ≡ None) × (Some b ≡ None)
    by_test true e = cc
    by_test false e = cc

none_from : (place : ℕ → Option ℕ) (i n : ℕ) → lowest_from place i n ≡ None → (k : ℕ) → k < n → place (i + k) ≡ None
none_from place i zero e k lt = absurd (omega arith)
none_from place i (suc n) e zero lt = rw (add-zero i) ((none_lower (place i) (lowest_from place (i + 1) n) e).0)
none_from place i (suc n) e (suc k) lt =
    let at : i + 1 + k ≡ i + suc k = omega arith in
    subst (λ (j : ℕ). place j ≡ None) at (none_from place (i + 1) n ((none_lower (place i) (lowest_from place (i + 1) n) e).1) k (omega arith))

-- there is no such place
abbrev pub no_place : Option ℕ → Bool
no_place o = not (is_some o)

pub place_none : (o : Option ℕ) → no_place o ≡ true → o ≡ None
place_none None e = refl
place_none (Some x) e = cc

none_of : {A : Type 0} (place : A → Option ℕ) (xs : List A) → lowest_of place xs ≡ None → list_all (λ x. no_place (place x)) xs ≡ true
none_of place [] e = refl
none_of place (x ∷ xs) e =
    let both = none_lower (place x) (lowest_of place xs) e in
    and_from (no_place (place x)) (list_all (λ y. no_place (place y)) xs) (rw both.0 refl) (none_of place xs both.1)

pub none_in_code : (file : List ℕ) (place : MemberRow → Option ℕ) → lowest_in_code file place ≡ None → (i : ℕ) → i < count_at file class_defs
    → list_all (λ row. no_place (of_code place row)) (methods_in (rows_of file i)) ≡ true
none_in_code file place e i lt =
    let at : 0 + i ≡ i = omega arith in
    none_of (of_code place) (methods_in (rows_of file i))
    (subst (λ (j : ℕ). lowest_of (of_code place) (methods_in (rows_of file j)) ≡ None) at
    (none_from (λ k. lowest_of (of_code place) (methods_in (rows_of file k))) 0 (count_at file class_defs) e i lt))
