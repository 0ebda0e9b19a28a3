-- Lists by number, as they are filled.
use Rattle.std.proofs.Common.{◌≡◌, ℕ, zero, suc, ◌+◌, ◌-◌, ◌<◌, ◌≤◌, List, [], ◌∷◌, ◌++◌, length, drop, flat_map, Some, refl, arith, append_assoc}
use Rattle.std.specs.Prelude.{slice_get}
use Rattle.std.proofs.Math.ListN.{drop_of_length-le}
use Rattle.std.proofs.lemmas.List.{drop_more, append-nil}
use Rattle.std.proofs.lemmas.Option.{slice_get_within, get_or_from_slice_get}
use Rattle.pi_format.specs.Rules.Lowest.{tabulation}

-- one more of n, behind i of them
pub listed_go : {A : Type 0} (f : ℕ → A) (done : List A) (from i n : ℕ) → i < n
    → (done ++ f (from + i) ∷ []) ++ tabulation f (from + (i + 1)) (n - (i + 1)) ≡ done ++ tabulation f (from + i) (n - i)
listed_go f done from i n lt =
    let more : n - i ≡ suc (n - (i + 1)) = omega arith in
    let place : from + i + 1 ≡ from + (i + 1) = omega arith in
    rw (more, place) (append_assoc done (f (from + i) ∷ []) (tabulation f (from + (i + 1)) (n - (i + 1))))

-- what functions of numbers give one behind the other, one more of n
pub flat_go : {A : Type 0} (f : ℕ → List A) (done : List A) (i n : ℕ) → i < n
    → (done ++ f i) ++ flat_map f (tabulation (λ k. k) (i + 1) (n - (i + 1))) ≡ done ++ flat_map f (tabulation (λ k. k) i (n - i))
flat_go f done i n lt =
    let more : n - i ≡ suc (n - (i + 1)) = omega arith in
    rw more (append_assoc done (f i) (flat_map f (tabulation (λ k. k) (i + 1) (n - (i + 1)))))

pub flat_end : {A : Type 0} (f : ℕ → List A) (done : List A) (i n : ℕ) → n ≤ i → done ++ flat_map f (tabulation (λ k. k) i (n - i)) ≡ done
flat_end f done i n le =
    let none : n - i ≡ zero = omega arith in
    rw none (append-nil done)

pub flat_begin : {A : Type 0} (f : ℕ → List A) (n : ℕ) → [] ++ flat_map f (tabulation (λ k. k) 0 (n - 0)) ≡ flat_map f (tabulation (λ k. k) 0 n)
flat_begin f n =
    let all : n - 0 ≡ n = omega arith in
    rw all refl

-- what a function of the elements of a list gives, one more of them
pub rest_go : {X A : Type 0} (f : X → List A) (done : List A) (xs : List X) (k : ℕ) (x : X) → slice_get xs k ≡ Some x
    → (done ++ f x) ++ flat_map f (drop (k + 1) xs) ≡ done ++ flat_map f (drop k xs)
rest_go f done xs k x is =
    rw (drop_more xs k x (slice_get_within xs k x is), get_or_from_slice_get xs k x x is) (append_assoc done (f x) (flat_map f (drop (k + 1) xs)))

pub rest_end : {X A : Type 0} (f : X → List A) (done : List A) (xs : List X) (i : ℕ) → length xs ≤ i → done ++ flat_map f (drop i xs) ≡ done
rest_end f done xs i le = rw (drop_of_length-le xs le) (append-nil done)
