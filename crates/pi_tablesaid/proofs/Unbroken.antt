-- What is there of each class of a file that breaks none of the rules X18 to X20.
use Rattle.std.proofs.Common.{◌≡◌, ℕ, zero, suc, ◌+◌, ◌<◌, List, [], ◌∷◌, Option, Some, None, Bool, true, false, refl, subst, add-zero, arith}
use Rattle.std.specs.Prelude.{◌==◌, ◌&&◌, nat_lt, nat_le, All, is_some, if◌then◌else◌}
use Rattle.std.proofs.lemmas.Bool.Decides.{nat_tests}
use Rattle.pi_format.specs.Tables.{count_at, class_defs}
use Rattle.pi_format.specs.Rules.Header.{unless}
use Rattle.pi_format.specs.Rules.Lowest.{lower, lowest_from, lowest_of}
use Rattle.pi_format.specs.Rules.Rows.{MemberRow}
use Rattle.pi_format.specs.Rules.ClassData.{class_data_at, class_values_at, class_rows, rows_of, methods_in, broken_class_data}
use Rattle.pi_format.specs.Rules.Values.{class_values, broken_values}
use Rattle.pi_format.specs.Rules.CodeItems.{code_head, code_lies, code_lists, code_holds, argument_words, of_code, broken_code}
use Rattle.pi_format.proofs.Every.{all_nothing, all_more, all_weaker}
use Rattle.pi_format.proofs.Held.{both}

-- where there is no lowest place, there is none at all
none_lower : (a b : Option ℕ) → lower a b ≡ None → (a ≡ None) × (b ≡ None)
none_lower None b e = (refl, e)
none_lower (Some a) None e = cc
none_lower (Some a) (Some b) e = by_test (nat_le a b) e
  where
    by_test : (le : Bool) → (if le then Some a else Some b) ≡ None → (Some a ≡ None) × (Some b ≡ None)
    by_test true e = cc
    by_test false e = cc

from_none : (place : ℕ → Option ℕ) (i n : ℕ) → lowest_from place i n ≡ None → (k : ℕ) → k < n → place (i + k) ≡ None
from_none place i zero e k lt = absurd (omega arith)
from_none place i (suc n) e zero lt = rw (add-zero i) ((none_lower (place i) (lowest_from place (i + 1) n) e).0)
from_none place i (suc n) e (suc k) lt =
    let next : i + 1 + k ≡ i + suc k = omega arith in
    subst (λ (j : ℕ). place j ≡ None) next (from_none place (i + 1) n ((none_lower (place i) (lowest_from place (i + 1) n) e).1) k (omega arith))

none_from : (place : ℕ → Option ℕ) (n : ℕ) → lowest_from place 0 n ≡ None → (i : ℕ) → i < n → place i ≡ None
none_from place n e i lt =
    let same : 0 + i ≡ i = omega arith in
    subst (λ (j : ℕ). place j ≡ None) same (from_none place 0 n e i lt)

none_of : {A : Type 0} (place : A → Option ℕ) (xs : List A) → lowest_of place xs ≡ None → All (λ x. place x ≡ None) xs
none_of place [] e = all_nothing (λ x. place x ≡ None)
none_of place (x ∷ xs) e =
    let parts = none_lower (place x) (lowest_of place xs) e in
    all_more (λ y. place y ≡ None) x xs parts.0 (none_of place xs parts.1)

unless_none : (holds : Bool) (at : ℕ) → unless holds at ≡ None → holds ≡ true
unless_none true at e = refl
unless_none false at e = cc

-- the rows and the values of a class
pub rows_there : (file : List ℕ) → broken_class_data file ≡ None → (i : ℕ) → i < count_at file class_defs → is_some (class_rows file i) ≡ true
rows_there file e i lt =
    unless_none (is_some (class_rows file i)) (class_data_at file i)
    (none_from (λ k. unless (is_some (class_rows file k)) (class_data_at file k)) (count_at file class_defs) e i lt)

pub values_there : (file : List ℕ) → broken_values file ≡ None → (i : ℕ) → i < count_at file class_defs → is_some (class_values file i) ≡ true
values_there file e i lt =
    unless_none (is_some (class_values file i)) (class_values_at file i)
    (none_from (λ k. unless (is_some (class_values file k)) (class_values_at file k)) (count_at file class_defs) e i lt)

-- the handler lists of each method with code
abbrev pub HasLists : List ℕ → MemberRow → Type 0
HasLists file row = 0 < row.code → is_some (code_lists file row.code) ≡ true

code_has_lists : (file : List ℕ) (words at : ℕ) → code_holds file words at ≡ true → is_some (code_lists file at) ≡ true
unfolding code_holds
code_has_lists file words at e =
    let head = code_head file at in
    let some : Bool = nat_lt 0 head.units && is_some (code_lists file at) in
    let fits : Bool = nat_le words head.registers && some in
    let a = both (code_lies file at) ((head.ins == words) && fits) e in
    let b = both (head.ins == words) fits a.1 in
    let c = both (nat_le words head.registers) some b.1 in
    (both (nat_lt 0 head.units) (is_some (code_lists file at)) c.1).1

row_has_lists : (file : List ℕ) (row : MemberRow) → of_code (λ r. unless (code_holds file (argument_words file r) r.code) r.code) row ≡ None → HasLists file row
row_has_lists file row e some =
    let there : (row.code == 0) ≡ false = grind (arith, nat_tests) in
    code_has_lists file (argument_words file row) row.code
    (unless_none (code_holds file (argument_words file row) row.code) row.code (rw there at e))

pub lists_there : (file : List ℕ) → broken_code file ≡ None → (i : ℕ) → i < count_at file class_defs → All (HasLists file) (methods_in (rows_of file i))
lists_there file e i lt =
    let place : MemberRow → Option ℕ = of_code (λ r. unless (code_holds file (argument_words file r) r.code) r.code) in
    all_weaker (λ r. place r ≡ None) (HasLists file) (methods_in (rows_of file i)) (row_has_lists file)
    (none_of place (methods_in (rows_of file i)) (none_from (λ k. lowest_of place (methods_in (rows_of file k))) (count_at file class_defs) e i lt))
