-- Marks of the numbers of a list, from its end on.
use Rattle.std.proofs.Common.{◌≡◌, ◌≢◌, ℕ, zero, suc, ◌+◌, ◌<◌, ◌≤◌, List, [], ◌∷◌, length, drop, get_or, Bool, true, false, refl, sym, ap, ◌∙◌, arith, subst}
use Rattle.std.specs.Prelude.{◌==◌, ◌||◌, nat_eq, slice_set, if◌then◌else◌}
use Rattle.std.specs.List.{list_any}
use Rattle.std.proofs.lemmas.Bool.Decides.{nat_tests}
use Rattle.std.proofs.Math.ListN.{drop_of_length-le}
use Rattle.std.proofs.lemmas.List.{drop_more, get_or-set_same, get_or-set_other, length-set}
use Rattle.pi_model.specs.Distinct.{all_distinct}
use Rattle.pi_dexraw.specs.Interfaces.{AreInRange}

-- what is marked are the numbers of a list that is distinct, and no mark is above that one
pub record AreMarked (mark n : ℕ) (list marks : List ℕ) : Type 0 where
  pub counted : length marks ≡ n
  pub below : AreInRange (mark + 1) marks
  pub marked : (k : ℕ) → k < n → (get_or marks k 0 == mark) ≡ list_any (nat_eq k) list
  pub distinct : all_distinct nat_eq list ≡ true

pub wider : (n : ℕ) (list : List ℕ) → AreInRange n list → AreInRange (n + 1) list
wider n list range = record { below = λ k lt. omega (arith, range.below k lt) }

not_same : (a b : ℕ) → a < b → (a == b) ≡ false
not_same a b lt = grind (arith, nat_tests)

pub none_marked : (mark n : ℕ) (list marks : List ℕ) (i : ℕ) → length list ≤ i → length marks ≡ n → AreInRange mark marks → AreMarked mark n (drop i list) marks
none_marked mark n list marks i le counted fresh =
    let none : drop i list ≡ [] = drop_of_length-le list le in
    subst (λ (xs : List ℕ). AreMarked mark n xs marks) (sym none) (record {
      counted = counted;
      below = wider mark marks fresh;
      marked = λ k lt. not_same (get_or marks k 0) mark (fresh.below k (omega (arith, counted)));
      distinct = refl;
    })

-- a list that is distinct is so from each of its numbers on
if_none : (b c : Bool) → (if b then false else c) ≡ true → c ≡ true
if_none true c e = cc
if_none false c e = e

rest_distinct : (list : List ℕ) (i : ℕ) → all_distinct nat_eq list ≡ true → all_distinct nat_eq (drop i list) ≡ true
rest_distinct [] zero e = e
rest_distinct [] (suc i) e = refl
rest_distinct (x ∷ xs) zero e = e
rest_distinct (x ∷ xs) (suc i) e = rest_distinct xs i (if_none (list_any (nat_eq x) xs) (all_distinct nat_eq xs) e)

-- a number that is marked stands once more
pub marked_again : (mark n : ℕ) (list marks : List ℕ) (i : ℕ) → i < length list → AreMarked mark n (drop (i + 1) list) marks
    → get_or list i 0 < n → get_or marks (get_or list i 0) 0 ≡ mark → all_distinct nat_eq list ≡ false
marked_again mark n list marks i lt m inside e = by_test (all_distinct nat_eq list) refl
  where
    same : (a b : ℕ) → a ≡ b → (a == b) ≡ true
    same a b q = grind (arith, nat_tests)

    no : (b c : Bool) → b ≡ true → (if b then false else c) ≡ true → ⊥
    no true c f g = cc
    no false c f g = cc

    by_test : (t : Bool) → all_distinct nat_eq list ≡ t → t ≡ false
    by_test false q = refl
    by_test true q =
        let here : all_distinct nat_eq (get_or list i 0 ∷ drop (i + 1) list) ≡ true =
        subst (λ (xs : List ℕ). all_distinct nat_eq xs ≡ true) (drop_more list i 0 lt) (rest_distinct list i q) in
        absurd (no (list_any (nat_eq (get_or list i 0)) (drop (i + 1) list)) (all_distinct nat_eq (drop (i + 1) list))
        (sym (m.marked (get_or list i 0) inside) ∙ same (get_or marks (get_or list i 0) 0) mark e) here)

-- one more number is marked
pub mark_more : (mark n : ℕ) (list marks : List ℕ) (i : ℕ) → i < length list → AreMarked mark n (drop (i + 1) list) marks
    → get_or list i 0 < n → get_or marks (get_or list i 0) 0 ≢ mark → AreMarked mark n (drop i list) (slice_set marks (get_or list i 0) mark)
mark_more mark n list marks i lt m inside e =
    let x = get_or list i 0 in
    let rest = drop (i + 1) list in
    let within : x < length marks = omega (arith, m.counted) in
    subst (λ (xs : List ℕ). AreMarked mark n xs (slice_set marks x mark)) (sym (drop_more list i 0 lt)) (record {
      counted = length-set marks x mark ∙ m.counted;
      below = record { below = λ k inside. below_by x within k (subst (λ (z : ℕ). k < z) (length-set marks x mark) inside) (k == x) refl };
      marked = λ k below. marked_by x within k below (k == x) refl;
      distinct = ap (λ (b : Bool). if b then false else all_distinct nat_eq rest) (sym (m.marked x inside) ∙ apart (get_or marks x 0) mark e) ∙ m.distinct;
    })
  where
    apart : (a b : ℕ) → a ≢ b → (a == b) ≡ false
    apart a b q = grind (arith, nat_tests)

    is : (a b : ℕ) → (a == b) ≡ true → a ≡ b
    is a b q = grind (arith, nat_tests)

    not : (a b : ℕ) → (a == b) ≡ false → a ≢ b
    not a b q = λ s. grind (arith, nat_tests)

    self : (a : ℕ) → (a == a) ≡ true
    self a = grind (arith, nat_tests)

    either : (b c : Bool) → b ≡ true → true ≡ (b || c)
    either true c q = refl
    either false c q = cc

    other : (b c : Bool) → b ≡ false → c ≡ (b || c)
    other true c q = cc
    other false c q = refl

    below_by : (x : ℕ) → x < length marks → (k : ℕ) → k < length marks → (b : Bool) → (k == x) ≡ b → get_or (slice_set marks x mark) k 0 < mark + 1
    below_by x within k inside true q =
        let same = ap (λ (j : ℕ). get_or (slice_set marks x mark) j 0) (is k x q) ∙ get_or-set_same marks x mark 0 within in
        omega (arith, same)
    below_by x within k inside false q =
        let same = get_or-set_other marks x k mark 0 (not k x q) in
        omega (arith, same, m.below.below k inside)

    marked_by : (x : ℕ) → x < length marks → (k : ℕ) → k < n → (b : Bool) → (k == x) ≡ b
        → (get_or (slice_set marks x mark) k 0 == mark) ≡ ((k == x) || list_any (nat_eq k) (drop (i + 1) list))
    marked_by x within k below true q =
        let same = ap (λ (j : ℕ). get_or (slice_set marks x mark) j 0) (is k x q) ∙ get_or-set_same marks x mark 0 within in
        ap (λ (a : ℕ). a == mark) same ∙ self mark ∙ either (k == x) (list_any (nat_eq k) (drop (i + 1) list)) q
    marked_by x within k below false q =
        let same = get_or-set_other marks x k mark 0 (not k x q) in
        ap (λ (a : ℕ). a == mark) same ∙ m.marked k below ∙ other (k == x) (list_any (nat_eq k) (drop (i + 1) list)) q
