-- Things are put beside their places one by one.
use Rattle.std.proofs.Common.{Vec, ◌≡◌, ℕ, ◌+◌, ◌<◌, ◌≤◌, List, [], ◌∷◌, ◌++◌, Some, length, map, ◌⊎◌, inl, inr, sym, ap, ◌∙◌, arith, length-append}
use Rattle.std.specs.Prelude.{slice_get}
use Rattle.std.specs.List.{All, Contains}
use Rattle.std.proofs.lemmas.Bool.{cases_lt}
use Rattle.std.proofs.lemmas.List.{map-append, length_push, get_or_append_left, get_or_push}
use Rattle.std.proofs.lemmas.List.Elements.{All-nil, All-push, All-weaker, Contains-append_left, Contains-push}
use Rattle.std.proofs.lemmas.Option.{slice_get-get_or, slice_get_within, get_or_from_slice_get}
use Rattle.pi_dexranks.specs.Keys.{AreKeys}

-- what stands in a list stands there still with more behind, and what is put behind stands there
pub stays : {A : Type 0} (xs ys : List A) (k : ℕ) (x : A) → slice_get xs k ≡ Some x → slice_get (xs ++ ys) k ≡ Some x
stays xs ys k x e =
    let lt = slice_get_within xs k x e in
    let far : k < length (xs ++ ys) = omega (arith, length-append xs ys) in
    slice_get-get_or (xs ++ ys) k x far ∙ ap Some (get_or_append_left xs ys x k lt ∙ get_or_from_slice_get xs k x x e)

pub stands_last : {A : Type 0} (xs : List A) (x : A) (k : ℕ) → length xs ≡ k → slice_get (xs ++ x ∷ []) k ≡ Some x
stands_last xs x k e =
    let lt : k < length (xs ++ x ∷ []) = omega (arith, length_push xs x) in
    slice_get-get_or (xs ++ x ∷ []) k x lt ∙ ap Some (get_or_push xs x x k e)

module _ {A K : Type 0} (item : K → A) (place : K → ℕ) where
  pub keys_none : AreKeys item place [] []
  keys_none = record {
    holds = All-nil (λ (k : K). slice_get [] (place k) ≡ Some (item k));
    each = λ n lt. absurd (omega arith);
  }

  pub keys_more : (xs : List A) (x : A) (keys : List K) (key : K) → AreKeys item place xs keys → item key ≡ x → place key ≡ length xs
      → AreKeys item place (xs ++ x ∷ []) (keys ++ key ∷ [])
  keys_more xs x keys key are e f = record { holds = holds; each = each }
    where
      holds : All (λ (k : K). slice_get (xs ++ x ∷ []) (place k) ≡ Some (item k)) (keys ++ key ∷ [])
      holds =
          All-push (λ (k : K). slice_get (xs ++ x ∷ []) (place k) ≡ Some (item k)) keys key
          (All-weaker (λ (k : K). slice_get xs (place k) ≡ Some (item k)) (λ (k : K). slice_get (xs ++ x ∷ []) (place k) ≡ Some (item k))
          (λ k at. stays xs (x ∷ []) (place k) (item k) at) keys are.holds)
          (stands_last xs x (place key) (sym f) ∙ ap Some (sym e))

      by_place : (n : ℕ) → n < length xs + 1 → (n < length xs) ⊎ (length xs ≤ n) → Contains (map place keys ++ place key ∷ []) n
      by_place n lt (inl low) = Contains-append_left (map place keys) (place key ∷ []) n (are.each n low)
      by_place n lt (inr high) =
          let same : n ≡ place key = omega (arith, lt, high, f) in
          rw same (Contains-push (map place keys) (place key))

      each : (n : ℕ) → n < length (xs ++ x ∷ []) → Contains (map place (keys ++ key ∷ [])) n
      each n lt =
          let within : n < length xs + 1 = omega (arith, length_push xs x, lt) in
          rw (map-append place keys (key ∷ [])) (by_place n within (cases_lt n (length xs)))

-- lists in buffers of their own beside places
pub keyed_more : {T Z : Type 0} (xs : List (List T)) (x : List T) (keys new : List (Vec T Z × ℕ)) (list : Vec T Z) (n : ℕ) → new ≡ keys ++ (list, n) ∷ []
    → length keys ≡ length xs → list.items ≡ x → n ≡ length keys → AreKeys (λ (key : Vec T Z × ℕ). key.0.items) (λ (key : Vec T Z × ℕ). key.1) xs keys
    → (length new ≡ length (xs ++ x ∷ [])) × AreKeys (λ (key : Vec T Z × ℕ). key.0.items) (λ (key : Vec T Z × ℕ). key.1) (xs ++ x ∷ []) new
keyed_more {T = T} {Z = Z} xs x keys new list n made long item place are =
    let key : Vec T Z × ℕ = (list, n) in
    rw made (
      omega (arith, length_push xs x, length_push keys key, long),
      keys_more (λ (k : Vec T Z × ℕ). k.0.items) (λ (k : Vec T Z × ℕ). k.1) xs x keys key are item (place ∙ long),
    )
