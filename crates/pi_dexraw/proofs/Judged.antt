-- From which definition on the interfaces of a list are classes that stand earlier.
use Rattle.std.proofs.Common.{◌≡◌, ◌≢◌, ℕ, ◌+◌, ◌-◌, ◌*◌, ◌/◌, ◌%◌, ◌<◌, ◌≤◌, List, length, drop, get_or, Option, Some, None, Bool, true, false, refl, sym, ap, ◌∙◌, arith, subst}
use Rattle.std.specs.Prelude.{◌==◌, ◌&&◌, nat_lt, nat_le, nat_eq, slice_get, slice_set}
use Rattle.std.specs.List.{list_all}
use Rattle.std.proofs.lemmas.Bool.Decides.{nat_tests}
use Rattle.std.proofs.lemmas.List.{drop_more}
use Rattle.pi_model.specs.Distinct.{all_distinct}
use Rattle.pi_bytes.specs.Numbers.{most_bytes}
use Rattle.pi_format.specs.Tables.{table_holds, count_at, class_defs, type_ids}
use Rattle.pi_format.specs.Rules.Entries.{list_fits, list_at}
use Rattle.pi_format.specs.Rules.Descriptors.{is_class_type}
use Rattle.pi_format.specs.Rules.Strings.{type_units}
use Rattle.pi_format.specs.Rules.Classes.{is_class_id, stands_earlier}
use Rattle.pi_dexids.specs.Tables.{HasTables}
use Rattle.pi_dexids.specs.Facts.{AreFacts}
use Rattle.pi_dexraw.specs.Interfaces.{AreFaces, AreJudged, AreKnown}
use Rattle.pi_format.proofs.Held.{both}
use Rattle.pi_dexids.proofs.Lists.{get_set_same, get_set_other, length_set, inside, some_is}

pub second_greater : (a b i : ℕ) → a < b → nat_le b i ≡ (nat_le a i && nat_le b i)
second_greater a b i lt = grind (arith, nat_tests)

pub first_greater : (a b i : ℕ) → b ≤ a → nat_le a i ≡ (nat_le a i && nat_le b i)
first_greater a b i le = grind (arith, nat_tests)

joined : (a b t c rest : Bool) → t ≡ b → c ≡ (a && b) → (a && (t && rest)) ≡ (c && rest)
joined true b t c rest e f = ap (λ z. z && rest) (e ∙ sym f)
joined false b t c rest e f = ap (λ z. z && rest) (sym f)

no_second : (a b : Bool) → b ≡ false → (a && b) ≡ false
no_second true b e = e
no_second false b e = refl

no_first : (a b : Bool) → a ≡ false → (a && b) ≡ false
no_first true b e = cc
no_first false b e = refl

first_passes : (a b c : Bool) → a ≡ true → b ≡ c → (a && b) ≡ c
first_passes true b c e f = f
first_passes false b c e f = cc

all_of_both : (a b : Bool) → b ≡ true → (a && b) ≡ a
all_of_both true b e = e
all_of_both false b e = refl

-- a class is one of the types
pub class_in_range : (file : List ℕ) (t : ℕ) → is_class_id file t ≡ true → t < count_at file type_ids
class_in_range file t e = below t (count_at file type_ids) ((both (nat_lt t (count_at file type_ids)) (is_class_type (type_units file t)) e).0)
  where
    below : (a b : ℕ) → nat_lt a b ≡ true → a < b
    below a b e = grind (arith, nat_tests)

-- one more type that is in range
pub one_more_in : (n k : ℕ) (list : List ℕ) → ((j : ℕ) → j < k → get_or list j 0 < n) → get_or list k 0 < n
    → (j : ℕ) → j < k + 1 → get_or list j 0 < n
one_more_in n k list earlier here j lt = by_test (j == k) refl
  where
    by_test : (b : Bool) → (j == k) ≡ b → get_or list j 0 < n
    by_test true q =
        let same : k ≡ j = grind (arith, nat_tests) in
        subst (λ (i : ℕ). get_or list i 0 < n) same here
    by_test false q =
        let lt : j < k = grind (arith, nat_tests) in
        earlier j lt

-- one more type of a list
pub face_goes : (file faces : List ℕ) (i k a b c : ℕ) → k < length faces → is_class_id file (get_or faces k 0) ≡ true
    → stands_earlier file i (get_or faces k 0) ≡ nat_le b i → nat_le c i ≡ (nat_le a i && nat_le b i)
    → (nat_le a i && list_all (λ t. is_class_id file t && stands_earlier file i t) (drop k faces))
    ≡ (nat_le c i && list_all (λ t. is_class_id file t && stands_earlier file i t) (drop (k + 1) faces))
face_goes file faces i k a b c lt class earlier e =
    let x = get_or faces k 0 in
    let rest = list_all (λ t. is_class_id file t && stands_earlier file i t) (drop (k + 1) faces) in
    rw (drop_more faces k 0 lt)
    (joined (nat_le a i) (nat_le b i) (is_class_id file x && stands_earlier file i x) (nat_le c i) rest
    (first_passes (is_class_id file x) (stands_earlier file i x) (nat_le b i) class earlier) e)

-- classes that are distinct, types that are not all classes, and types that are not distinct
pub both_judged : (file faces : List ℕ) (from : Option ℕ) → AreFaces file faces from → all_distinct nat_eq faces ≡ true → AreJudged file faces from
both_judged file faces from are distinct = record {
  each = λ i lt.
      all_of_both (list_all (λ t. is_class_id file t && stands_earlier file i t) faces) (all_distinct nat_eq faces) distinct ∙ are.each i lt;
}

pub no_faces : (file faces : List ℕ) → AreFaces file faces None → AreJudged file faces None
no_faces file faces are = record {
  each = λ i lt.
      no_first (list_all (λ t. is_class_id file t && stands_earlier file i t) faces) (all_distinct nat_eq faces) (are.each i lt);
}

pub not_distinct : (file faces : List ℕ) → all_distinct nat_eq faces ≡ false → AreJudged file faces None
not_distinct file faces twice = record {
  each = λ i lt.
      no_second (list_all (λ t. is_class_id file t && stands_earlier file i t) faces) (all_distinct nat_eq faces) twice;
}

-- a list stands at a multiple of four
in_fours : (file : List ℕ) (at : ℕ) → list_fits file at ≡ true → 4 * (at / 4) ≡ at
in_fours file at fits =
    let even : at % 4 ≡ 0 = by_test (at == 0) refl in
    omega (arith, even)
  where
    by_test : (b : Bool) → (at == 0) ≡ b → at % 4 ≡ 0
    by_test true q =
        let none : at ≡ 0 = grind (arith, nat_tests) in
        omega (arith, none)
    by_test false q = grind (arith, nat_tests)

pub few_classes : (file : List ℕ) → HasTables file → count_at file class_defs ≤ most_bytes
unfolding table_holds
few_classes file tables =
    let holds = tables.classes in
    let small = tables.small in
    grind (arith, nat_tests)

-- what is known of a list, nothing at first, and more of one list
pub recalled : (file known : List ℕ) (at before : ℕ) → AreKnown file known → list_fits file at ≡ true → slice_get known (at / 4) ≡ Some before
    → before ≢ 0 → AreJudged file (list_at file at) (Some (before - 1))
recalled file known at before are fits e some =
    let more : before ≡ before - 1 + 1 = omega arith in
    subst (λ (a : ℕ). AreJudged file (list_at file a) (Some (before - 1))) (in_fours file at fits) (are.each (at / 4) (before - 1) (e ∙ ap Some more))

pub none_known : (file : List ℕ) (n : ℕ) (known : List ℕ) → AreFacts (λ k. 0) n known → AreKnown file known
none_known file n known facts = record {
  each = λ k m e.
      let lt : k < n = subst (λ (j : ℕ). k < j) facts.counted (inside known k (m + 1) e) in
      let none : m + 1 ≡ 0 = some_is (sym e ∙ facts.each k lt) in
      absurd (omega (arith, none));
}

pub learned : (file known : List ℕ) (at n : ℕ) → AreKnown file known → list_fits file at ≡ true → AreJudged file (list_at file at) (Some n)
    → AreKnown file (slice_set known (at / 4) (n + 1))
learned file known at n are fits judged = record { each = λ k m e. by_test k m e (k == at / 4) refl }
  where
    by_test : (k m : ℕ) → slice_get (slice_set known (at / 4) (n + 1)) k ≡ Some (m + 1) → (b : Bool) → (k == at / 4) ≡ b
        → AreJudged file (list_at file (4 * k)) (Some m)
    by_test k m e true q =
        let same : k ≡ at / 4 = grind (arith, nat_tests) in
        let place : at ≡ 4 * k = omega (arith, in_fours file at fits, same) in
        let lt : at / 4 < length known = omega (arith, same, length_set known (at / 4) (n + 1), inside (slice_set known (at / 4) (n + 1)) k (m + 1) e) in
        let is = get_set_same known (at / 4) (n + 1) lt in
        let here = ap (slice_get (slice_set known (at / 4) (n + 1))) same in
        let number : n + 1 ≡ m + 1 = some_is (sym is ∙ sym here ∙ e) in
        let number : n ≡ m = omega (arith, number) in
        subst (λ (a : ℕ). AreJudged file (list_at file a) (Some m)) place (subst (λ (j : ℕ). AreJudged file (list_at file at) (Some j)) number judged)
    by_test k m e false q =
        let apart : k ≢ at / 4 = λ s. grind (arith, nat_tests) in
        are.each k m (sym (get_set_other known (at / 4) (n + 1) k apart) ∙ e)
