-- Slots with the first place of each name.
use Rattle.std.proofs.Common.{◌≡◌, ◌≢◌, ℕ, zero, suc, ◌+◌, ◌<◌, ◌≤◌, ◌==◌, List, [], ◌∷◌, ◌++◌, length, take, replicate, Bool, true, false, cond, is_some, get_or, set, Option, Some, None, position, slice_get, IsTrue, IsSomeAnd, inl, inr, arith, refl, sym, ap, ◌∙◌, not, is_none, filter}
use Rattle.std.specs.List.{All, list_all, position_from, position_or_len, list_any}
use Rattle.std.specs.Option.{option_or}
use Rattle.std.proofs.lemmas.Bool.{and_parts, cases_Bool, cases_lt, eqb-true, eqb-false, eq-eqb, lt-ltb, ltb-true, ne_eqb}
use Rattle.std.proofs.lemmas.List.{get_or-set_same, get_or-set_other, take_more, length-take-le}
use Rattle.std.proofs.lemmas.List.Elements.{filter_agree}
use Rattle.std.proofs.lemmas.List.Quantifiers.{position-Some}
use Rattle.std.proofs.lemmas.List.Sums.{fails_before_first, AllPass-from_list_all}
use Rattle.std.proofs.lemmas.Option.{slice_get-get_or}
use Rattle.std.proofs.lemmas.Iterator.Adapters.{position_from-zero}
use Rattle.pi_model.specs.declared.numbers.NameNo.{NameNo}
use Rattle.pi_model.specs.declared.describe.ClassDesc.{ClassDesc}
use Rattle.pi_model.specs.Program.{FilePart, Program, with_file, same_name, new_types}
use Rattle.pi_model.specs.Uses.{name_below, class_below}
use Rattle.pi_model.specs.Index.{IsFirsts, first_set, type_name}

position_from_push : {X : Type 0} (p : X → Bool) (i : ℕ) (xs : List X) (x : X) → position_from p i (xs ++ x ∷ []) ≡ option_or (position_from p i xs) (cond (p x) (Some (i + length xs)) None)
position_from_push p i [] x = let e : i + 0 ≡ i = omega arith in rw e refl
position_from_push p i (y ∷ xs) x =
    elim (cases_Bool (p y)) [
      | inl e ↦ rw e refl
      | inr e ↦ let add : i + suc (length xs) ≡ i + 1 + length xs = omega arith in rw (e, add) (position_from_push p (i + 1) xs x)
    ]

position_is : {X : Type 0} (p : X → Bool) (xs : List X) → position p xs ≡ position_from p 0 xs
position_is p xs = position_from-zero p xs

-- the first place after one more element
pub position_push : {X : Type 0} (p : X → Bool) (xs : List X) (x : X) → position p (xs ++ x ∷ []) ≡ option_or (position p xs) (cond (p x) (Some (length xs)) None)
position_push p xs x =
    let here = position_from_push p 0 xs x in
    let add : 0 + length xs ≡ length xs = omega arith in
    let there : position_from p 0 (xs ++ x ∷ []) ≡ option_or (position_from p 0 xs) (cond (p x) (Some (length xs)) None) = rw add at here in
    position_is p (xs ++ x ∷ []) ∙ there ∙ ap (λ v. option_or v (cond (p x) (Some (length xs)) None)) (sym (position_is p xs))

or_none : (v : Option ℕ) → v ≡ option_or v None
or_none None = refl
or_none (Some x) = refl

or_some : (v w : Option ℕ) → is_some v ≡ true → v ≡ option_or v w
or_some None w e = cc
or_some (Some x) w e = refl

none_is : (v : Option ℕ) → is_some v ≡ false → v ≡ None
none_is None e = refl
none_is (Some x) e = cc

-- what each slot has after a place is set
set_at : (slots : List (Option ℕ)) (a k n : ℕ) → a < length slots → get_or (first_set slots a k) n None ≡ option_or (get_or slots n None) (cond (a == n) (Some k) None)
set_at slots a k n lt =
    elim (cases_Bool (is_some (get_or slots a None))) [
      | inl some ↦
          rw some (elim (cases_Bool (a == n)) [
            | inl e ↦
                let same : n ≡ a = sym (eqb-true a n e) in
                rw same (or_some (get_or slots a None) _ some)
            | inr e ↦ rw e (or_none (get_or slots n None))
          ])
      | inr none ↦
          rw none (elim (cases_Bool (a == n)) [
            | inl e ↦
                let same : n ≡ a = sym (eqb-true a n e) in
                let at : get_or (set slots a (Some k)) a None ≡ Some k = get_or-set_same slots a (Some k) None lt in
                let there : a == a ≡ true = eq-eqb a a refl in
                rw (same, at, none_is (get_or slots a None) none, there) refl
            | inr e ↦
                let other : n ≢ a = λ s. eqb-false a n e (sym s) in
                rw (e, get_or-set_other slots a n (Some k) None other) (or_none (get_or slots n None))
          ])
    ]

-- one more thing
pub firsts_push : {X : Type 0} (name : X → NameNo) (slots : List (Option ℕ)) (xs : List X) (x : X) → IsFirsts name slots xs → (name x).0 < length slots → IsFirsts name (first_set slots (name x).0 (length xs)) (xs ++ x ∷ [])
firsts_push name slots xs x k lt = record {
  at = λ n. set_at slots (name x).0 (length xs) n.0 lt ∙ ap (λ v. option_or v (cond (same_name (name x) n) (Some (length xs)) None)) (k.at n) ∙ sym (position_push (λ x. same_name (name x) n) xs x);
}

-- more slots with nothing in them
none_more : (slots : List (Option ℕ)) (more n : ℕ) → get_or (slots ++ replicate more None) n None ≡ get_or slots n None
none_more [] zero n = refl
none_more [] (suc more) zero = refl
none_more [] (suc more) (suc n) = none_more [] more n
none_more (s ∷ slots) more zero = refl
none_more (s ∷ slots) more (suc n) = none_more slots more n

pub firsts_room : {X : Type 0} (name : X → NameNo) (slots : List (Option ℕ)) (more : ℕ) (xs : List X) → IsFirsts name slots xs → IsFirsts name (slots ++ replicate more None) xs
firsts_room name slots more xs k = record { at = λ n. none_more slots more n.0 ∙ k.at n }

-- where nothing is found, each thing fails
position_none : {X : Type 0} (p : X → Bool) (xs : List X) → position p xs ≡ None → length xs ≤ position_or_len p xs
position_none p xs e =
    elim (cases_lt (position_or_len p xs) (length xs)) [
      | inl lt ↦ let k : Some (position_or_len p xs) ≡ None = rw (lt-ltb _ _ lt) at e in absurd cc
      | inr le ↦ le
    ]

same_from_name : (a b : NameNo) → IsTrue (same_name a b) → a ≡ b
same_from_name a b e = let number : ℕ → NameNo = λ v. record { 0 = v } in ap number (eqb-true a.0 b.0 e)

-- what is found has the name
pub first_found : {X : Type 0} (name : X → NameNo) (xs : List X) (n : NameNo) (k : ℕ) → position (λ x. same_name (name x) n) xs ≡ Some k → IsSomeAnd (slice_get xs k) (λ x. name x ≡ n) × (k < length xs)
first_found name [] n k e = absurd cc
first_found {X = X} name (x ∷ xs) n k e =
    let parts = position-Some (λ x. same_name (name x) n) (x ∷ xs) k x e in
    (rw (slice_get-get_or (x ∷ xs) k x parts.0) (same_from_name _ n parts.1), parts.0)

pub type_found : (types : List NameNo) (n : NameNo) (k : ℕ) → position (λ t. same_name (type_name t) n) types ≡ Some k → slice_get types k ≡ Some n
type_found types n k e =
    let parts = position-Some (λ t. same_name (type_name t) n) types k n e in
    slice_get-get_or types k n parts.0 ∙ ap (λ t. Some t) (same_from_name _ n parts.1)

-- where nothing is found, nothing has the name
pub none_found : {X : Type 0} (name : X → NameNo) (xs : List X) (n : NameNo) → position (λ x. same_name (name x) n) xs ≡ None → All (λ x. name x ≢ n) xs
none_found {X = X} name xs n e = λ k d lt same.
    let p : X → Bool = λ x. same_name (name x) n in
    let fails = fails_before_first p xs k d (omega (arith, position_none p xs e)) in
    eqb-false _ n.0 fails (ap (λ (v : NameNo). v.0) same)

-- one more thing of a list, as at a step of a loop
pub firsts_step : {X : Type 0} (name : X → NameNo) (slots : List (Option ℕ)) (xs : List X) (i : ℕ) (x : X) → i < length xs → x ≡ get_or xs i x → IsFirsts name slots (take i xs) → (name x).0 < length slots → IsFirsts name (first_set slots (name x).0 i) (take (i + 1) xs)
firsts_step name slots xs i x lt e k within =
    let next : take (i + 1) xs ≡ take i xs ++ x ∷ [] = rw (← e) at (take_more xs i x lt) in
    let long : length (take i xs) ≡ i = length-take-le i xs (omega arith) in
    let more = firsts_push name slots (take i xs) x k within in
    rw next (rw long at more)

-- each element passes a test that all pass
pub all_at : {X : Type 0} (p : X → Bool) (xs : List X) (i : ℕ) (x : X) → i < length xs → x ≡ get_or xs i x → IsTrue (list_all p xs) → IsTrue (p x)
all_at p xs i x lt e h = rw e (AllPass-from_list_all p xs h i x lt)

-- a name that is below a count, as a number
pub below_count : (n : NameNo) (count : ℕ) → IsTrue (name_below count n) → n.0 < count
below_count n count h = ltb-true n.0 count h

pub class_name_below : (d : ClassDesc) (count : ℕ) → IsTrue (class_below count d) → d.name.0 < count
class_name_below d count h = below_count d.name count (and_parts (name_below count d.name) _ h).0

-- a test that passes where another does on each element
found_or_none : (p q : NameNo → Bool) → ((t : NameNo) → p t ≡ q t) → (i : ℕ) (xs : List NameNo) → is_none (position_from p i xs) ≡ not (list_any q xs)
found_or_none p q agree i [] = refl
found_or_none p q agree i (x ∷ xs) =
    elim (cases_Bool (q x)) [
      | inl e ↦ rw (agree x, e) refl
      | inr e ↦ rw (agree x, e) (found_or_none p q agree (i + 1) xs)
    ]

same_either_way : (a b : NameNo) → same_name a b ≡ same_name b a
same_either_way a b =
    elim (cases_Bool (same_name b a)) [
      | inl e ↦ eq-eqb a.0 b.0 (sym (eqb-true b.0 a.0 e)) ∙ sym e
      | inr e ↦ ne_eqb a.0 b.0 (λ k. eqb-false b.0 a.0 e (sym k)) ∙ sym e
    ]

-- a type is new where its slot is empty
empty_is_new : (slots : List (Option ℕ)) (old : List NameNo) → IsFirsts type_name slots old → (t : NameNo) → not (list_any (same_name t) old) ≡ is_none (get_or slots t.0 None)
empty_is_new slots old k t =
    let found = found_or_none (λ x. same_name x t) (same_name t) (λ x. same_either_way x t) 0 old in
    sym (ap is_none (k.at t ∙ position_is (λ x. same_name x t) old) ∙ found)

-- the new types by the slots
pub new_types_are : (slots : List (Option ℕ)) (old types : List NameNo) → IsFirsts type_name slots old → filter (λ t. is_none (get_or slots t.0 None)) types ≡ new_types old types
new_types_are slots old types k = sym (filter_agree _ _ (empty_is_new slots old k) types)

-- what stands behind the old types is new
pub types_are : (slots : List (Option ℕ)) (old types ts : List NameNo) → IsFirsts type_name slots old → ts ≡ old ++ filter (λ t. is_none (get_or slots t.0 None)) types → ts ≡ old ++ new_types old types
types_are slots old types ts k e = e ∙ ap (λ v. old ++ v) (new_types_are slots old types k)

pub with_file_is : (p : Program) (names : List (List ℕ)) (types : List NameNo) (classes : List ClassDesc) (ns : List (List ℕ)) (ts : List NameNo) (ds : List ClassDesc) (fs : List FilePart) → ns ≡ p.names ++ names → ts ≡ p.types ++ new_types p.types types → ds ≡ p.classes ++ classes → fs ≡ p.files ++ record { names_to = length p.names + length names; types = types } ∷ [] → record { names = ns; types = ts; classes = ds; files = fs } ≡ with_file p names types classes
with_file_is p names types classes ns ts ds fs a b c d = rw (a, b, c, d) refl
