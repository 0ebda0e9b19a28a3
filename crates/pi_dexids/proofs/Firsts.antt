-- The first definition of a type.
use Rattle.std.proofs.Common.{◌≡◌, ◌≢◌, ℕ, zero, suc, ◌+◌, ◌-◌, ◌<◌, ◌≤◌, List, Bool, true, false, refl, sym, ap, ◌∙◌, arith}
use Rattle.std.specs.Prelude.{◌==◌, ◌||◌, nat_lt, nat_le, slice_set, if◌then◌else◌}
use Rattle.std.proofs.lemmas.Bool.Decides.{nat_tests}
use Rattle.pi_format.specs.Tables.{count_at, class_defs}
use Rattle.pi_format.specs.Rules.Entries.{some_from}
use Rattle.pi_format.specs.Rules.Classes.{class_entry, is_defined_in, stands_earlier}
use Rattle.pi_dexids.specs.Facts.{AreFacts, first_from, first_definition}
use Rattle.pi_dexids.proofs.Lists.{facts_set, facts_same}

least_by : (test : ℕ → Bool) (i n : ℕ) (b : Bool) → i + 1 ≤ first_from test (i + 1) n → i ≤ (if b then i else first_from test (i + 1) n)
least_by test i n true le = omega arith
least_by test i n false le = omega arith

at_least : (test : ℕ → Bool) (i n : ℕ) → i ≤ first_from test i n
at_least test i zero = omega arith
at_least test i (suc n) = least_by test i n (test i) (at_least test (i + 1) n)

not_below : (a b : ℕ) → b ≤ a → false ≡ nat_lt a b
not_below a b le = grind (arith, nat_tests)

is_below : (a b : ℕ) → a < b → true ≡ nat_lt a b
is_below a b lt = grind (arith, nat_tests)

tells_by : (test : ℕ → Bool) (i n more : ℕ) (b : Bool) → some_from test (i + 1) n ≡ nat_lt (first_from test (i + 1) (n + more)) (i + 1 + n)
    → (b || some_from test (i + 1) n) ≡ nat_lt (if b then i else first_from test (i + 1) (n + more)) (i + suc n)
tells_by test i n more true e = is_below i (i + suc n) (omega arith)
tells_by test i n more false e =
    let place : i + 1 + n ≡ i + suc n = omega arith in
    e ∙ ap (nat_lt (first_from test (i + 1) (n + more))) place

-- one of the first numbers passes where the first that passes is one of them
first_tells : (test : ℕ → Bool) (i n more : ℕ) → some_from test i n ≡ nat_lt (first_from test i (n + more)) (i + n)
first_tells test i zero more = not_below (first_from test i (0 + more)) (i + 0) (omega (arith, at_least test i (0 + more)))
first_tells test i (suc n) more =
    let steps : suc n + more ≡ suc (n + more) = omega arith in
    rw steps (tells_by test i n more (test i) (first_tells test (i + 1) n more))

pub defined_by : (file : List ℕ) (n t : ℕ) → n ≤ count_at file class_defs → is_defined_in file n t ≡ nat_lt (first_definition file 0 t) n
unfolding first_definition is_defined_in
defined_by file n t le =
    let all : count_at file class_defs - 0 ≡ n + (count_at file class_defs - n) = omega arith in
    let place : 0 + n ≡ n = omega arith in
    first_tells (λ k. (class_entry file k).class == t) 0 n (count_at file class_defs - n)
    ∙ ap (λ (m : ℕ). nat_lt (first_from (λ k. (class_entry file k).class == t) 0 m) (0 + n)) (sym all)
    ∙ ap (nat_lt (first_from (λ k. (class_entry file k).class == t) 0 (count_at file class_defs - 0))) place

-- behind all definitions there is none
pub none_defined : (file : List ℕ) (n : ℕ) (list : List ℕ) → AreFacts (λ k. count_at file class_defs) n list
    → AreFacts (first_definition file (count_at file class_defs - 0)) n list
unfolding first_definition
none_defined file n list facts =
    let all : count_at file class_defs - 0 ≡ count_at file class_defs = omega arith in
    let none : count_at file class_defs - count_at file class_defs ≡ zero = omega arith in
    facts_same (λ k. count_at file class_defs) (first_definition file (count_at file class_defs - 0)) n list facts (λ k. rw (all, none) refl)

first_step : (file : List ℕ) (i t : ℕ) → i < count_at file class_defs
    → first_definition file i t ≡ (if (class_entry file i).class == t then i else first_definition file (i + 1) t)
unfolding first_definition
first_step file i t lt =
    let more : count_at file class_defs - i ≡ suc (count_at file class_defs - (i + 1)) = omega arith in
    rw more refl

-- a definition before the others
pub definition_noted : (file : List ℕ) (n i : ℕ) (list : List ℕ) → i < count_at file class_defs → AreFacts (first_definition file (i + 1)) n list
    → AreFacts (first_definition file i) n (slice_set list (class_entry file i).class i)
definition_noted file n i list lt facts =
    facts_set (first_definition file (i + 1)) (first_definition file i) n (class_entry file i).class list i facts
    (sym (first_step file i (class_entry file i).class lt ∙ here ((class_entry file i).class == (class_entry file i).class) (same (class_entry file i).class)))
    (λ k apart. sym (first_step file i k lt ∙ there k ((class_entry file i).class == k) (other (class_entry file i).class k apart)))
  where
    same : (a : ℕ) → (a == a) ≡ true
    same a = grind (arith, nat_tests)

    other : (a k : ℕ) → k ≢ a → (a == k) ≡ false
    other a k apart = grind (arith, nat_tests)

    here : (b : Bool) → b ≡ true → (if b then i else first_definition file (i + 1) (class_entry file i).class) ≡ i
    here true e = refl
    here false e = cc

    there : (k : ℕ) (b : Bool) → b ≡ false → (if b then i else first_definition file (i + 1) k) ≡ first_definition file (i + 1) k
    there k true e = cc
    there k false e = refl

-- from the definition behind the first one of a type on, the type stands earlier; one that is not defined always does
pub earlier_by : (file : List ℕ) (i t : ℕ) → i < count_at file class_defs → first_definition file 0 t < count_at file class_defs
    → stands_earlier file i t ≡ nat_le (first_definition file 0 t + 1) i
unfolding stands_earlier
earlier_by file i t lt some =
    let all = defined_by file (count_at file class_defs) t (omega arith) in
    let few = defined_by file i t (omega arith) in
    rw (all, few) (grind (arith, nat_tests))

pub earlier_always : (file : List ℕ) (i t : ℕ) → i < count_at file class_defs → count_at file class_defs ≤ first_definition file 0 t
    → stands_earlier file i t ≡ nat_le 0 i
unfolding stands_earlier
earlier_always file i t lt none =
    let all = defined_by file (count_at file class_defs) t (omega arith) in
    let few = defined_by file i t (omega arith) in
    rw (all, few) (grind (arith, nat_tests))
