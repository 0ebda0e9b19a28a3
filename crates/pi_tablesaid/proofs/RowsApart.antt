-- Members that are distinct: the ids of their rows rise where they do not fall, and lists of rows stand apart.
use Rattle.std.proofs.Common.{◌≡◌, ℕ, suc, ◌<◌, ◌≤◌, not, List, [], ◌∷◌, ◌++◌, map, Bool, true, false, Some, None, refl, sym, ap, ◌∙◌, arith}
use Rattle.std.specs.Prelude.{◌==◌, ◌||◌, nat_eq, nat_lt}
use Rattle.std.specs.List.{list_any}
use Rattle.std.specs.List.Sorted.{IsNonDecreasing}
use Rattle.std.proofs.lemmas.Bool.{and_parts, and_from, or_parts, or_from, ne_eqb, eqb-false, lt-ltb, both_ways, not_from_false}
use Rattle.std.proofs.lemmas.List.Folds.{list_any-append}
use Rattle.pi_model.specs.Distinct.{all_distinct}
use Rattle.pi_format.specs.Rules.Rows.{MemberRow}
use Rattle.pi_format.specs.Rules.ClassData.{are_apart}
use Rattle.pi_said.proofs.Lists.{apart, distinct_parts, distinct_from}
use Rattle.pi_dextables.specs.Said.{ids_rise}

-- the ids of rows
abbrev pub row_ids : List MemberRow → List ℕ
row_ids rows = map (λ (row : MemberRow). row.id) rows

list_any-map : {X Y : Type 0} (p : Y → Bool) (f : X → Y) (xs : List X) → list_any p (map f xs) ≡ list_any (λ x. p (f x)) xs
list_any-map p f [] = refl
list_any-map p f (x ∷ xs) = ap (λ (b : Bool). p (f x) || b) (list_any-map p f xs)

-- things of one id are the same, so that the ids of distinct ones are distinct
none_ids : {X Y : Type 0} (same : Y → Y → Bool) (f : X → Y) (id : X → ℕ) → ((x y : X) → id x ≡ id y → same (f x) (f y) ≡ true) → (x : X) (xs : List X)
    → list_any (same (f x)) (map f xs) ≡ false → list_any (nat_eq (id x)) (map id xs) ≡ false
none_ids same f id told x [] none = refl
none_ids same f id told x (y ∷ ys) none =
    let parts = or_parts (same (f x) (f y)) (list_any (same (f x)) (map f ys)) none in
    or_from (nat_eq (id x) (id y)) (list_any (nat_eq (id x)) (map id ys))
    (ne_eqb (id x) (id y) (λ e. both_ways (same (f x) (f y)) parts.0 (told x y e)))
    (none_ids same f id told x ys parts.1)

pub distinct_ids : {X Y : Type 0} (same : Y → Y → Bool) (f : X → Y) (id : X → ℕ) → ((x y : X) → id x ≡ id y → same (f x) (f y) ≡ true) → (xs : List X)
    → all_distinct same (map f xs) ≡ true → all_distinct nat_eq (map id xs) ≡ true
distinct_ids same f id told [] distinct = refl
distinct_ids same f id told (x ∷ xs) distinct =
    let parts = distinct_parts same (f x) (map f xs) distinct in
    distinct_from nat_eq (id x) (map id xs) (none_ids same f id told x xs parts.0) (distinct_ids same f id told xs parts.1)

-- of a distinct list, both parts are distinct and stand apart
pub record Split {X : Type 0} (same : X → X → Bool) (xs ys : List X) : Type 0 where
  pub left : all_distinct same xs ≡ true
  pub right : all_distinct same ys ≡ true
  pub apart : apart same xs ys ≡ true

pub distinct_split : {X : Type 0} (same : X → X → Bool) (xs ys : List X) → all_distinct same (xs ++ ys) ≡ true → Split same xs ys
distinct_split same [] ys distinct = record { left = refl; right = distinct; apart = refl }
distinct_split same (x ∷ xs) ys distinct =
    let parts = distinct_parts same x (xs ++ ys) distinct in
    let none = or_parts (list_any (same x) xs) (list_any (same x) ys) (sym (list_any-append (same x) xs ys) ∙ parts.0) in
    let rest = distinct_split same xs ys parts.1 in
    record {
      left = distinct_from same x xs none.0 rest.left;
      right = rest.right;
      apart = and_from (not (list_any (same x) ys)) (apart same xs ys) (not_from_false (list_any (same x) ys) none.1) rest.apart;
    }

-- lists of rows stand apart where their ids do
pub rows_apart : (xs ys : List MemberRow) → apart nat_eq (row_ids xs) (row_ids ys) ≡ true → are_apart xs ys ≡ true
rows_apart [] ys stand = refl
rows_apart (x ∷ xs) ys stand =
    let parts = and_parts (not (list_any (nat_eq x.id) (row_ids ys))) (apart nat_eq (row_ids xs) (row_ids ys)) stand in
    let none : not (list_any (λ (y : MemberRow). x.id == y.id) ys) ≡ true = ap not (sym (list_any-map (nat_eq x.id) (λ (y : MemberRow). y.id) ys)) ∙ parts.0 in
    and_from (not (list_any (λ (y : MemberRow). x.id == y.id) ys)) (are_apart xs ys) none (rows_apart xs ys parts.1)

-- ids that do not fall and are distinct rise
rises : (x y : ℕ) → x ≤ y → (x == y) ≡ false → nat_lt x y ≡ true
rises x y le apart = lt-ltb x y (less (eqb-false x y apart))
  where
    less : (x ≡ y → ⊥) → x < y
    less differ = omega arith

rise_behind : (x : ℕ) (rows : List MemberRow) → IsNonDecreasing (x ∷ row_ids rows) → all_distinct nat_eq (x ∷ row_ids rows) ≡ true → ids_rise (Some x) rows ≡ true
rise_behind x [] order distinct = refl
rise_behind x (row ∷ rows) order distinct =
    let parts = distinct_parts nat_eq x (row.id ∷ row_ids rows) distinct in
    let no = (or_parts (x == row.id) (list_any (nat_eq x) (row_ids rows)) parts.0).0 in
    and_from (nat_lt x row.id) (ids_rise (Some row.id) rows) (rises x row.id (order 0 1 0 (omega arith) (omega arith)) no)
    (rise_behind row.id rows (λ i j d le lt. order (suc i) (suc j) d (omega (arith, le)) (omega (arith, lt))) parts.1)

pub rows_rise : (rows : List MemberRow) → IsNonDecreasing (row_ids rows) → all_distinct nat_eq (row_ids rows) ≡ true → ids_rise None rows ≡ true
rows_rise [] order distinct = refl
rows_rise (row ∷ rows) order distinct = rise_behind row.id rows order distinct
