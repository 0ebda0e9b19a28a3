-- Two lists whose ids rise, gone through together.
use Rattle.std.proofs.Common.{◌≡◌, ℕ, zero, suc, ◌+◌, ◌<◌, ◌≤◌, List, [], ◌∷◌, length, drop, get_or, Option, Some, None, Bool, true, false, refl, sym, ap, ◌∙◌, arith, add-one, drop-cons, drop_of_length-le}
use Rattle.std.specs.Prelude.{◌==◌, nat_lt}
use Rattle.std.specs.List.{list_any}
use Rattle.std.proofs.lemmas.Bool.Decides.{nat_tests}
use Rattle.pi_format.specs.Rules.Rows.{MemberRow, is_behind}
use Rattle.pi_format.specs.Rules.ClassData.{are_apart}
use Rattle.pi_format.proofs.Held.{both, below}
use Rattle.pi_classdata.specs.Held.{rise}

-- a list rises behind a lower number too
pub rise_lower : (a b : ℕ) (rows : List MemberRow) → a < b → rise (Some b) rows ≡ true → rise (Some a) rows ≡ true
rise_lower a b [] lt e = refl
rise_lower a b (row ∷ rows) lt e =
    let here = both (nat_lt b row.id) (rise (Some row.id) rows) e in
    let above = below b row.id here.0 in
    let first : nat_lt a row.id ≡ true = grind (arith, nat_tests) in
    rw first here.1

-- a number that a list is behind is none of its ids
pub not_among : (a : ℕ) (rows : List MemberRow) → rise (Some a) rows ≡ true → list_any (λ y. a == y.id) rows ≡ false
not_among a [] e = refl
not_among a (row ∷ rows) e =
    let here = both (nat_lt a row.id) (rise (Some row.id) rows) e in
    let above = below a row.id here.0 in
    let first : (a == row.id) ≡ false = grind (arith, nat_tests) in
    rw first (not_among a rows (rise_lower a row.id rows above here.1))

-- a lower row of the first list is not in the second one
pub first_lower : (x y : MemberRow) (xs ys : List MemberRow) → x.id < y.id → rise (Some y.id) ys ≡ true
    → are_apart (x ∷ xs) (y ∷ ys) ≡ are_apart xs (y ∷ ys)
first_lower x y xs ys lt rising =
    let first : nat_lt x.id y.id ≡ true = grind (arith, nat_tests) in
    let none : list_any (λ z. x.id == z.id) (y ∷ ys) ≡ false = not_among x.id (y ∷ ys) (rw first rising) in
    rw none refl

-- a lower row of the second list is not in the first one
pub second_lower : (y : MemberRow) (xs ys : List MemberRow) → rise (Some y.id) xs ≡ true → are_apart xs (y ∷ ys) ≡ are_apart xs ys
second_lower y [] ys rising = refl
second_lower y (x ∷ xs) ys rising =
    let here = both (nat_lt y.id x.id) (rise (Some x.id) xs) rising in
    let above = below y.id x.id here.0 in
    let first : (x.id == y.id) ≡ false = grind (arith, nat_tests) in
    rw (first, second_lower y xs ys (rise_lower y.id x.id xs above here.1)) refl

-- nothing is in no list
pub apart_none : (xs : List MemberRow) → are_apart xs [] ≡ true
apart_none [] = refl
apart_none (x ∷ xs) = apart_none xs

pub met : (x y : MemberRow) (xs ys : List MemberRow) → x.id ≡ y.id → are_apart (x ∷ xs) (y ∷ ys) ≡ false
met x y xs ys e =
    let first : (x.id == y.id) ≡ true = grind (arith, nat_tests) in
    rw first refl

-- what is left of lists whose ids rise
pub drop_rises : (before : Option ℕ) (i : ℕ) (rows : List MemberRow) (row : MemberRow) (rest : List MemberRow)
    → rise before rows ≡ true → drop i rows ≡ row ∷ rest → rise (Some row.id) rest ≡ true
drop_rises before zero [] row rest e is = cc
drop_rises before (suc i) [] row rest e is = cc
drop_rises before zero (x ∷ xs) row rest e is =
    let here = both (is_behind before x.id) (rise (Some x.id) xs) e in
    let same : x ≡ row = cc in
    let others : xs ≡ rest = cc in
    ap (λ (r : MemberRow). rise (Some r.id) rest) (sym same) ∙ ap (rise (Some x.id)) (sym others) ∙ here.1
drop_rises before (suc i) (x ∷ xs) row rest e is =
    let here = both (is_behind before x.id) (rise (Some x.id) xs) e in
    drop_rises (Some x.id) i xs row rest here.1 is

along : (ws xs ys zs : List MemberRow) → ws ≡ xs → ys ≡ zs → are_apart ws ys ≡ are_apart xs zs
along ws xs ys zs e f = ap (λ (vs : List MemberRow). are_apart vs ys) e ∙ ap (are_apart xs) f

pub first_goes : (xs ys : List MemberRow) (i j : ℕ) (x y : MemberRow) → i < length xs → j < length ys → x ≡ get_or xs i x → y ≡ get_or ys j y
    → rise None ys ≡ true → x.id < y.id → are_apart (drop (i + 1) xs) (drop j ys) ≡ are_apart (drop i xs) (drop j ys)
first_goes xs ys i j x y lt lu x_is y_is rising low =
    let dx : drop i xs ≡ x ∷ drop (i + 1) xs = cc (drop-cons xs i x lt, add-one i) in
    let dy : drop j ys ≡ y ∷ drop (j + 1) ys = cc (drop-cons ys j y lu, add-one j) in
    ap (are_apart (drop (i + 1) xs)) dy
    ∙ sym (along (drop i xs) (x ∷ drop (i + 1) xs) (drop j ys) (y ∷ drop (j + 1) ys) dx dy
    ∙ first_lower x y (drop (i + 1) xs) (drop (j + 1) ys) low (drop_rises None j ys y (drop (j + 1) ys) rising dy))

pub second_goes : (xs ys : List MemberRow) (i j : ℕ) (x y : MemberRow) → i < length xs → j < length ys → x ≡ get_or xs i x → y ≡ get_or ys j y
    → rise None xs ≡ true → y.id < x.id → are_apart (drop i xs) (drop (j + 1) ys) ≡ are_apart (drop i xs) (drop j ys)
second_goes xs ys i j x y lt lu x_is y_is rising low =
    let dx : drop i xs ≡ x ∷ drop (i + 1) xs = cc (drop-cons xs i x lt, add-one i) in
    let dy : drop j ys ≡ y ∷ drop (j + 1) ys = cc (drop-cons ys j y lu, add-one j) in
    let first : nat_lt y.id x.id ≡ true = grind (arith, nat_tests) in
    let behind : rise (Some y.id) (x ∷ drop (i + 1) xs) ≡ true = rw first (drop_rises None i xs x (drop (i + 1) xs) rising dx) in
    sym (ap (are_apart (drop i xs)) dy
    ∙ ap (λ (zs : List MemberRow). are_apart zs (y ∷ drop (j + 1) ys)) dx
    ∙ second_lower y (x ∷ drop (i + 1) xs) (drop (j + 1) ys) behind
    ∙ ap (λ (zs : List MemberRow). are_apart zs (drop (j + 1) ys)) (sym dx))

pub meets : (xs ys : List MemberRow) (i j : ℕ) (x y : MemberRow) → i < length xs → j < length ys → x ≡ get_or xs i x → y ≡ get_or ys j y
    → x.id ≡ y.id → are_apart (drop i xs) (drop j ys) ≡ false
meets xs ys i j x y lt lu x_is y_is same =
    let dx : drop i xs ≡ x ∷ drop (i + 1) xs = cc (drop-cons xs i x lt, add-one i) in
    let dy : drop j ys ≡ y ∷ drop (j + 1) ys = cc (drop-cons ys j y lu, add-one j) in
    along (drop i xs) (x ∷ drop (i + 1) xs) (drop j ys) (y ∷ drop (j + 1) ys) dx dy ∙ met x y (drop (i + 1) xs) (drop (j + 1) ys) same

pub second_ends : (j : ℕ) (xs ys : List MemberRow) (all : Bool) → length ys ≤ j → are_apart xs (drop j ys) ≡ all → true ≡ all
second_ends j xs ys all le e =
    let none : drop j ys ≡ [] = drop_of_length-le ys le in
    sym (apart_none xs) ∙ sym (ap (are_apart xs) none) ∙ e
