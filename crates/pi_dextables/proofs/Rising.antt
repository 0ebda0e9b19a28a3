-- That a test of neighbours tells whether a list rises, and whether numbers of its elements do not fall.
use Rattle.std.proofs.Common.{◌≡◌, ℕ, ◌+◌, ◌<◌, ◌≤◌, Bool, true, false, List, [], ◌∷◌, length, map, get_or, nat_le, Ordering, Less, Equal, Greater, refl, sym, ◌∙◌, arith}
use Rattle.std.specs.Bool.{Decides}
use Rattle.std.specs.Cmp.{IsTotalOrder}
use Rattle.std.specs.List.{IsAllAdjacentAnswer}
use Rattle.std.specs.List.Sorted.{IsNonDecreasing, IsStrictlySortedBy}
use Rattle.std.proofs.lemmas.List.{length-map, get_or-map as number_at}
use Rattle.std.proofs.lemmas.List.Sorted.{IsNonDecreasingBy-from_all_adjacent}
use Rattle.std.specs.Ordering.{is_lt}
use Rattle.std.proofs.lemmas.Bool.{le-leb, leb-true}
use Rattle.std.proofs.Math.ListN.{get_or-map}
use Rattle.std.proofs.lemmas.Map.Keys.{Less-from_sorted, sorted_from_all_adjacent}

module _ {X K : Type 0} {R : K → K → Ordering} (o : IsTotalOrder R) (key : X → K) (lt : X → X → Bool)
    (tells : (x y : X) → Decides (lt x y) (R (key x) (key y) ≡ Less)) where
  -- two neighbours, among the elements and among their keys
  less : (xs : List X) (k : ℕ) (d : X) → true ≡ lt (get_or xs k d) (get_or xs (k + 1) d)
      → R (get_or (map key xs) k (key d)) (get_or (map key xs) (k + 1) (key d)) ≡ Less
  less xs k d is = rw (get_or-map key xs k d, get_or-map key xs (k + 1) d) ((tells _ _).0 (sym is))

  less_then : (xs : List X) (k : ℕ) (d : X) → R (get_or (map key xs) k (key d)) (get_or (map key xs) (k + 1) (key d)) ≡ Less
      → lt (get_or xs k d) (get_or xs (k + 1) d) ≡ true
  less_then xs k d is = (tells _ _).1 (rw (get_or-map key xs k d, get_or-map key xs (k + 1) d) at is)

  pub rises_decided : (xs : List X) (r : Bool) → IsAllAdjacentAnswer (λ x y b. b ≡ lt x y) xs r → Decides r (IsStrictlySortedBy R (map key xs))
  unfolding IsStrictlySortedBy
  rises_decided [] true a = (λ _. tt, λ _. refl)
  rises_decided [] false a = let within : a.0 + 1 < 0 = a.1 in absurd (omega arith)
  rises_decided (x ∷ xs) true a =
      (λ _. sorted_from_all_adjacent o (map key (x ∷ xs)) (key x) (λ k in'. less (x ∷ xs) k x (a k x (omega (arith, in', length-map (x ∷ xs) key)))), λ _. refl)
  rises_decided (x ∷ xs) false a = (
    λ no. absurd (cc no),
    λ sorted. let is = less_then (x ∷ xs) a.0 x (Less-from_sorted R (map key (x ∷ xs)) a.0 (a.0 + 1) (key x) sorted (omega arith) (omega (arith, a.1, length-map (x ∷ xs) key))) in
        a.2 x ∙ is,
  )

pub order_tells : (o : Ordering) → Decides (is_lt o) (o ≡ Less)
order_tells Less = (λ _. refl, λ _. refl)
order_tells Equal = (λ no. cc, λ no. cc)
order_tells Greater = (λ no. cc, λ no. cc)

module _ {X : Type 0} (key : X → ℕ) where
  -- two neighbours, among the elements and among their numbers
  in_order : (xs : List X) (k : ℕ) (x : X) (d : ℕ) → k + 1 < length xs → true ≡ nat_le (key (get_or xs k x)) (key (get_or xs (k + 1) x))
      → get_or (map key xs) k d ≤ get_or (map key xs) (k + 1) d
  in_order xs k x d lt is =
      let le = leb-true (key (get_or xs k x)) (key (get_or xs (k + 1) x)) (sym is) in
      omega (arith, le, number_at key xs k x d (omega arith), number_at key xs (k + 1) x d lt)

  pub order_decided : (xs : List X) (r : Bool) → IsAllAdjacentAnswer (λ x y b. b ≡ nat_le (key x) (key y)) xs r → Decides r (IsNonDecreasing (map key xs))
  order_decided [] true a = (λ _. λ i j d le lt. absurd (omega arith), λ _. refl)
  order_decided [] false a = let within : a.0 + 1 < 0 = a.1 in absurd (omega arith)
  order_decided (x ∷ xs) true a =
      (λ _. IsNonDecreasingBy-from_all_adjacent (λ n. n) (map key (x ∷ xs)) (λ k d lt. (let lt' : k + 1 < length (x ∷ xs) = omega (arith, lt, length-map (x ∷ xs) key) in in_order (x ∷ xs) k x d lt' (a k x lt'))), λ _. refl)
  order_decided (x ∷ xs) false a = (
    λ no. absurd (cc no),
    λ up.
        let k : ℕ = a.0 in
        let lt : k + 1 < length (x ∷ xs) = a.1 in
        let le = up k (k + 1) (key x) (omega arith) (omega (arith, lt, length-map (x ∷ xs) key)) in
        let here = number_at key (x ∷ xs) k x (key x) (omega (arith, lt)) in
        let next = number_at key (x ∷ xs) (k + 1) x (key x) lt in
        a.2 x ∙ le-leb (key (get_or (x ∷ xs) k x)) (key (get_or (x ∷ xs) (k + 1) x)) (omega (arith, le, here, next)),
  )
