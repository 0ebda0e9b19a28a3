-- What holds of lists by number, of images, and of lists that are joined end to end.
use Rattle.std.proofs.Common.{◌≡◌, ℕ, zero, suc, ◌+◌, ◌<◌, List, [], ◌∷◌, ◌++◌, map, Bool, true, false, refl, sym, ap, ◌∙◌, arith, add-zero}
use Rattle.std.specs.Prelude.{◌||◌}
use Rattle.std.specs.List.{list_all, list_any, flat_map}
use Rattle.std.proofs.lemmas.Bool.{and_parts, and_from, or_from, or_parts}
use Rattle.std.proofs.lemmas.List.Folds.{list_all-append}
use Rattle.pi_model.specs.Distinct.{all_distinct}
use Rattle.pi_format.specs.Rules.Entries.{some_from}
use Rattle.pi_format.specs.Rules.Lowest.{tabulation}
use Rattle.pi_said.proofs.Lists.{append_all, distinct_from, distinct_parts}

-- the images of what a function gives, and one more at the end
pub map-listed : {A B : Type 0} (g : A → B) (f : ℕ → A) (i n : ℕ) → map g (tabulation f i n) ≡ tabulation (λ k. g (f k)) i n
map-listed {B = B} g f i zero = refl
map-listed {B = B} g f i (suc n) = ap (λ (xs : List B). g (f i) ∷ xs) (map-listed g f (i + 1) n)

pub listed_last : {A : Type 0} (f : ℕ → A) (i n : ℕ) → tabulation f i (n + 1) ≡ tabulation f i n ++ f (i + n) ∷ []
listed_last f i zero = ap (λ (k : ℕ). f k ∷ []) (sym (add-zero i))
listed_last f i (suc n) =
    let more : suc n + 1 ≡ suc (n + 1) = omega arith in
    let place : i + 1 + n ≡ i + suc n = omega arith in
    rw (more, listed_last f (i + 1) n, place) refl

-- functions that give the same give the same lists
pub listed_same : {A : Type 0} (f g : ℕ → A) (i n : ℕ) → ((k : ℕ) → k < i + n → f k ≡ g k) → tabulation f i n ≡ tabulation g i n
listed_same f g i zero same = refl
listed_same f g i (suc n) same =
    let here = same i (omega arith) in
    let rest = listed_same f g (i + 1) n (λ k lt. same k (omega arith)) in
    cc

-- a test of one of the things that a function gives is a test of one of the numbers
pub any_listed : {A : Type 0} (p : A → Bool) (f : ℕ → A) (test : ℕ → Bool) (i n : ℕ) → ((k : ℕ) → k < i + n → p (f k) ≡ test k) → list_any p (tabulation f i n) ≡ some_from test i n
any_listed p f test i zero same = refl
any_listed p f test i (suc n) same = rw (same i (omega arith), any_listed p f test (i + 1) n (λ k lt. same k (omega arith))) refl

-- tests of elements that follow from tests of others
pub all_mapped : {A B : Type 0} (p : A → Bool) (q : B → Bool) (f : A → B) → ((x : A) → p x ≡ true → q (f x) ≡ true) → (xs : List A) → list_all p xs ≡ true → list_all q (map f xs) ≡ true
all_mapped p q f more [] h = refl
all_mapped p q f more (x ∷ xs) h =
    let parts = and_parts (p x) (list_all p xs) h in
    and_from (q (f x)) (list_all q (map f xs)) (more x parts.0) (all_mapped p q f more xs parts.1)

pub all_joined : {A B : Type 0} (p : A → Bool) (q : B → Bool) (f : A → List B) → ((x : A) → p x ≡ true → list_all q (f x) ≡ true) → (xs : List A) → list_all p xs ≡ true → list_all q (flat_map f xs) ≡ true
all_joined p q f more [] h = refl
all_joined p q f more (x ∷ xs) h =
    let parts = and_parts (p x) (list_all p xs) h in
    append_all q (f x) (flat_map f xs) (more x parts.0) (all_joined p q f more xs parts.1)

pub all_parts : {A : Type 0} (p : A → Bool) (xs ys : List A) → list_all p (xs ++ ys) ≡ true → (list_all p xs ≡ true) × (list_all p ys ≡ true)
all_parts p xs ys h = and_parts (list_all p xs) (list_all p ys) (sym (list_all-append p xs ys) ∙ h)

-- functions that give the same for elements that pass a test
pub mapped_same : {A B : Type 0} (p : A → Bool) (f g : A → B) → ((x : A) → p x ≡ true → f x ≡ g x) → (xs : List A) → list_all p xs ≡ true → map f xs ≡ map g xs
mapped_same p f g same [] h = refl
mapped_same p f g same (x ∷ xs) h =
    let parts = and_parts (p x) (list_all p xs) h in
    let here = same x parts.0 in
    let rest = mapped_same p f g same xs parts.1 in
    cc

-- the same of images of images
pub mapped_same_of : {A B C : Type 0} (p : A → Bool) (f : B → C) (g : A → B) (h : A → C) → ((x : A) → p x ≡ true → f (g x) ≡ h x) → (xs : List A) → list_all p xs ≡ true → map f (map g xs) ≡ map h xs
mapped_same_of p f g h same [] all = refl
mapped_same_of p f g h same (x ∷ xs) all =
    let parts = and_parts (p x) (list_all p xs) all in
    let here = same x parts.0 in
    let rest = mapped_same_of p f g h same xs parts.1 in
    cc

-- distinct elements that pass a test are distinct by another relation, where that one holds of none that differ
none_like : {A : Type 0} (own : A → Bool) (same like : A → A → Bool) → ((a b : A) → own a ≡ true → own b ≡ true → same a b ≡ false → like a b ≡ false)
    → (x : A) → own x ≡ true → (ys : List A) → list_all own ys ≡ true → list_any (same x) ys ≡ false → list_any (like x) ys ≡ false
none_like own same like differ x h [] owned none = refl
none_like own same like differ x h (y ∷ ys) owned none =
    let here = and_parts (own y) (list_all own ys) owned in
    let parts = or_parts (same x y) (list_any (same x) ys) none in
    or_from (like x y) (list_any (like x) ys) (differ x y h here.0 parts.0) (none_like own same like differ x h ys here.1 parts.1)

pub distinct_like : {A : Type 0} (own : A → Bool) (same like : A → A → Bool) → ((a b : A) → own a ≡ true → own b ≡ true → same a b ≡ false → like a b ≡ false)
    → (xs : List A) → list_all own xs ≡ true → all_distinct same xs ≡ true → all_distinct like xs ≡ true
distinct_like own same like differ [] owned distinct = refl
distinct_like own same like differ (x ∷ xs) owned distinct =
    let here = and_parts (own x) (list_all own xs) owned in
    let parts = distinct_parts same x xs distinct in
    distinct_from like x xs (none_like own same like differ x here.0 xs here.1 parts.0) (distinct_like own same like differ xs here.1 parts.1)

-- images are distinct exactly where their sources are by the images
any-map : {A B : Type 0} (p : B → Bool) (f : A → B) (xs : List A) → list_any p (map f xs) ≡ list_any (λ x. p (f x)) xs
any-map p f [] = refl
any-map p f (x ∷ xs) = ap (λ (b : Bool). p (f x) || b) (any-map p f xs)

pub distinct-map : {A B : Type 0} (same : B → B → Bool) (f : A → B) (xs : List A) → all_distinct same (map f xs) ≡ all_distinct (λ a b. same (f a) (f b)) xs
distinct-map same f [] = refl
distinct-map same f (x ∷ xs) = rw (any-map (same (f x)) f xs, distinct-map same f xs) refl
