-- Loops over numbers: what one more number leaves to be said of the rest.
use Rattle.std.proofs.Common.{◌≡◌, ℕ, zero, suc, ◌+◌, ◌-◌, ◌<◌, ◌≤◌, List, [], ◌∷◌, ◌++◌, length, drop, get_or, map, Option, Some, None, Bool, true, false, refl, sym, ap, ◌∙◌, arith, subst, add-zero, append_assoc}
use Rattle.std.specs.Prelude.{◌||◌, slice_get, if◌then◌else◌}
use Rattle.std.proofs.lemmas.Bool.Decides.{nat_tests}
use Rattle.std.proofs.Math.ListN.{drop_of_length-le}
use Rattle.std.proofs.lemmas.List.{drop_more, append-nil}
use Rattle.pi_format.specs.Rules.Entries.{first_bad, some_from, each_from}
use Rattle.pi_format.specs.Rules.Lowest.{lower, lowest_from, tabulation}

pub bad_goes : (holds : ℕ → Bool) (i n : ℕ) → i < n → holds i ≡ true → first_bad holds (i + 1) (n - (i + 1)) ≡ first_bad holds i (n - i)
bad_goes holds i n lt e =
    let more : n - i ≡ suc (n - (i + 1)) = omega arith in
    rw more (rw e refl)

pub bad_stops : (holds : ℕ → Bool) (i n : ℕ) → i < n → holds i ≡ false → first_bad holds i (n - i) ≡ Some i
bad_stops holds i n lt e =
    let more : n - i ≡ suc (n - (i + 1)) = omega arith in
    rw more (rw e refl)

pub bad_done : (holds : ℕ → Bool) (i n : ℕ) → n ≤ i → first_bad holds i (n - i) ≡ None
bad_done holds i n le =
    let done : n - i ≡ zero = omega arith in
    rw done refl

pub some_goes : (test : ℕ → Bool) (i n : ℕ) → i < n → test i ≡ false → some_from test (i + 1) (n - (i + 1)) ≡ some_from test i (n - i)
some_goes test i n lt e =
    let more : n - i ≡ suc (n - (i + 1)) = omega arith in
    rw more (rw e refl)

pub some_stops : (test : ℕ → Bool) (i n : ℕ) → i < n → test i ≡ true → some_from test i (n - i) ≡ true
some_stops test i n lt e =
    let more : n - i ≡ suc (n - (i + 1)) = omega arith in
    rw more (rw e refl)

pub some_done : (test : ℕ → Bool) (i n : ℕ) → n ≤ i → some_from test i (n - i) ≡ false
some_done test i n le =
    let done : n - i ≡ zero = omega arith in
    rw done refl

pub each_goes : (test : ℕ → Bool) (i n : ℕ) → i < n → test i ≡ true → each_from test (i + 1) (n - (i + 1)) ≡ each_from test i (n - i)
each_goes test i n lt e =
    let more : n - i ≡ suc (n - (i + 1)) = omega arith in
    rw more (rw e refl)

pub each_stops : (test : ℕ → Bool) (i n : ℕ) → i < n → test i ≡ false → each_from test i (n - i) ≡ false
each_stops test i n lt e =
    let more : n - i ≡ suc (n - (i + 1)) = omega arith in
    rw more (rw e refl)

pub each_done : (test : ℕ → Bool) (i n : ℕ) → n ≤ i → each_from test i (n - i) ≡ true
each_done test i n le =
    let done : n - i ≡ zero = omega arith in
    rw done refl

-- one more number at the end
or_assoc : (a b c : Bool) → (a || (b || c)) ≡ ((a || b) || c)
or_assoc true b c = refl
or_assoc false b c = refl

or_false : (a : Bool) → (a || false) ≡ a
or_false true = refl
or_false false = refl

pub some_last : (test : ℕ → Bool) (i n : ℕ) → some_from test i (suc n) ≡ (some_from test i n || test (i + n))
some_last test i zero = or_false (test i) ∙ ap test (sym (add-zero i))
some_last test i (suc n) =
    let place : i + 1 + n ≡ i + suc n = omega arith in
    ap (λ b. test i || b) (some_last test (i + 1) n ∙ ap (λ k. some_from test (i + 1) n || test k) place)
    ∙ or_assoc (test i) (some_from test (i + 1) n) (test (i + suc n))

-- a test that breaks nowhere holds everywhere
pub none_first : (b : Bool) (i : ℕ) (later : Option ℕ) → (if b then later else Some i) ≡ None → (b ≡ true) × (later ≡ None)
none_first true i later e = (refl, e)
none_first false i later e = cc

pub all_hold : (holds : ℕ → Bool) (i n : ℕ) → first_bad holds i n ≡ None → (k : ℕ) → k < n → holds (i + k) ≡ true
all_hold holds i zero e k lt = absurd (omega arith)
all_hold holds i (suc n) e zero lt = rw (add-zero i) ((none_first (holds i) i (first_bad holds (i + 1) n) e).0)
all_hold holds i (suc n) e (suc k) lt =
    let place : i + 1 + k ≡ i + suc k = omega arith in
    subst (λ j. holds j ≡ true) place (all_hold holds (i + 1) n ((none_first (holds i) i (first_bad holds (i + 1) n) e).1) k (omega arith))

-- the lowest place so far
pub lower_none : (a : Option ℕ) → lower a None ≡ a
lower_none None = refl
lower_none (Some a) = refl

below_all : (a b c : ℕ) → lower (lower (Some a) (Some b)) (Some c) ≡ lower (Some a) (lower (Some b) (Some c))
below_all a b c = grind (arith, nat_tests)

pub lower_assoc : (a b c : Option ℕ) → lower (lower a b) c ≡ lower a (lower b c)
lower_assoc None b c = refl
lower_assoc (Some a) None c = refl
lower_assoc (Some a) (Some b) None = lower_none (lower (Some a) (Some b))
lower_assoc (Some a) (Some b) (Some c) = below_all a b c

pub lowest_goes : (place : ℕ → Option ℕ) (found : Option ℕ) (i n : ℕ) → i < n
    → lower (lower found (place i)) (lowest_from place (i + 1) (n - (i + 1))) ≡ lower found (lowest_from place i (n - i))
lowest_goes place found i n lt =
    let more : n - i ≡ suc (n - (i + 1)) = omega arith in
    rw more (lower_assoc found (place i) (lowest_from place (i + 1) (n - (i + 1))))

pub lowest_done : (place : ℕ → Option ℕ) (found : Option ℕ) (i n : ℕ) → n ≤ i → lower found (lowest_from place i (n - i)) ≡ found
lowest_done place found i n le =
    let done : n - i ≡ zero = omega arith in
    rw done (lower_none found)

pub listed_goes : {A : Type 0} (f : ℕ → A) (done : List A) (i n : ℕ) → i < n
    → (done ++ f i ∷ []) ++ tabulation f (i + 1) (n - (i + 1)) ≡ done ++ tabulation f i (n - i)
listed_goes f done i n lt =
    let more : n - i ≡ suc (n - (i + 1)) = omega arith in
    rw more (append_assoc done (f i ∷ []) (tabulation f (i + 1) (n - (i + 1))))

pub listed_done : {A : Type 0} (f : ℕ → A) (done : List A) (i n : ℕ) → n ≤ i → done ++ tabulation f i (n - i) ≡ done
listed_done f done i n le =
    let none : n - i ≡ zero = omega arith in
    rw none (append-nil done)

pub listed_length : {A : Type 0} (f : ℕ → A) (i n : ℕ) → length (tabulation f i n) ≡ n
listed_length f i zero = refl
listed_length f i (suc n) = ap suc (listed_length f (i + 1) n)

pub listed_get : {A : Type 0} (f : ℕ → A) (i n k : ℕ) → k < n → slice_get (tabulation f i n) k ≡ Some (f (i + k))
listed_get f i zero k lt = absurd (omega arith)
listed_get f i (suc n) zero lt = ap (λ (j : ℕ). Some (f j)) (sym (add-zero i))
listed_get f i (suc n) (suc k) lt =
    let place : i + 1 + k ≡ i + suc k = omega arith in
    listed_get f (i + 1) n k (omega arith) ∙ ap (λ (j : ℕ). Some (f j)) place

-- the images of the elements of a list, one more of them
pub map_go : {X A : Type 0} (f : X → A) (done : List A) (xs : List X) (i : ℕ) (x : X) → i < length xs → x ≡ get_or xs i x
    → (done ++ f x ∷ []) ++ map f (drop (i + 1) xs) ≡ done ++ map f (drop i xs)
map_go f done xs i x lt is = rw (drop_more xs i x lt, sym is) (append_assoc done (f x ∷ []) (map f (drop (i + 1) xs)))

pub map_end : {X A : Type 0} (f : X → A) (done : List A) (xs : List X) (i : ℕ) → length xs ≤ i → done ++ map f (drop i xs) ≡ done
map_end f done xs i le = rw (drop_of_length-le xs le) (append-nil done)
