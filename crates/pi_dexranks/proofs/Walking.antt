-- A walk over keys in order, with the keys done and those left.
use Rattle.std.proofs.Common.{◌≡◌, ℕ, ◌+◌, ◌<◌, ◌≤◌, false, List, [], ◌∷◌, ◌++◌, Some, length, map, get_or, Ordering, Less, Equal, Greater, nat_cmp, refl, sym, ◌∙◌, subst, arith, append_assoc, length-append}
use Rattle.std.specs.Prelude.{slice_get}
use Rattle.std.specs.Cmp.{IsStrictWeakOrder}
use Rattle.std.specs.List.{All}
use Rattle.std.specs.List.Sorted.{IsSorted, IsPermutation}
use Rattle.std.specs.Ordering.{is_lt, ordering_then}
use Rattle.std.proofs.Math.ListN.{set}
use Rattle.std.proofs.Math.Seq.{get_or-append_seam}
use Rattle.std.proofs.lemmas.Cmp.{nat_cmp_total, on_total, then_total}
use Rattle.std.proofs.lemmas.List.{append-nil, get_or_append_left, length-set}
use Rattle.std.proofs.lemmas.List.MinMax.{ranks_by}
use Rattle.std.proofs.lemmas.List.Sorted.{sorted_far, All-permutation, Contains-permutation, IsPermutation-map}
use Rattle.std.proofs.lemmas.Option.{slice_get_within}
use Rattle.pi_classtables.specs.Sorted.{sorted, place_in}
use Rattle.pi_classtables.proofs.Orders.{IsExactOrder}
use Rattle.pi_dexranks.specs.Kept.{IsKept}
use Rattle.pi_dexranks.specs.Keys.{AreKeys}
use Rattle.pi_dexranks.proofs.Ranking.{AreRanked, ranked_none, ranked_more, kept_sorted, ranks_places}

-- the order of keys: by their things, and by their places where these are the same
abbrev pub key_cmp : {A K : Type 0} → (A → A → Ordering) → (K → A) → (K → ℕ) → K → K → Ordering
key_cmp cmp item place x y = ordering_then (cmp (item x) (item y)) (nat_cmp (place x) (place y))

-- keys in order, of which the first are done
pub record IsWalk {A K : Type 0} (cmp : A → A → Ordering) (item : K → A) (place : K → ℕ) (xs : List A) (done left : List K) (kept : List A) (ranks : List ℕ) : Type 0 where
  pub keys : AreKeys item place xs (done ++ left)
  pub up : IsSorted (key_cmp cmp item place) (done ++ left)
  pub long : length ranks ≡ length xs
  pub ranked : AreRanked cmp item place xs done kept ranks

-- a pair that is not below another is not below it in its first part
first_of : (o p : Ordering) → is_lt (ordering_then o p) ≡ false → is_lt o ≡ false
first_of Less p h = h
first_of Equal p h = refl
first_of Greater p h = refl

-- what holds of all things of two lists holds of those of each
left_part : {K : Type 0} (P : K → Type 0) (done left : List K) → All P (done ++ left) → All P done
left_part P done left all n d lt =
    let far : n < length (done ++ left) = omega (arith, length-append done left) in
    subst P (get_or_append_left done left d n lt) (all n d far)

next_part : {K : Type 0} (P : K → Type 0) (done : List K) (key : K) (rest : List K) → All P (done ++ key ∷ rest) → P key
next_part P done key rest all =
    let far : length done < length (done ++ key ∷ rest) = omega (arith, length-append done (key ∷ rest)) in
    subst P (get_or-append_seam done key rest key) (all (length done) key far)

module _ {A K : Type 0} {cmp : A → A → Ordering} (o : IsExactOrder cmp) (item : K → A) (place : K → ℕ) (xs : List A) where
  weak : IsStrictWeakOrder (λ (x y : K). is_lt (key_cmp cmp item place x y))
  weak = ranks_by (then_total (on_total item o.total) (on_total place nat_cmp_total)) (λ (k : K). k)

  -- no later key's thing is below an earlier one's
  behind : (done : List K) (key : K) (rest : List K) → IsSorted (key_cmp cmp item place) (done ++ key ∷ rest) → All (λ (k : K). is_lt (cmp (item key) (item k)) ≡ false) done
  behind done key rest up n d lt =
      let far : length done < length (done ++ key ∷ rest) = omega (arith, length-append done (key ∷ rest)) in
      let early : n ≤ length done = omega (arith, lt) in
      let it = sorted_far (λ (x y : K). is_lt (key_cmp cmp item place x y)) weak (done ++ key ∷ rest) up n (length done) d early far in
      let e = get_or-append_seam done key rest d in
      let f = get_or_append_left done (key ∷ rest) d n lt in
      let here = subst (λ (k : K). is_lt (key_cmp cmp item place k (get_or (done ++ key ∷ rest) n d)) ≡ false) e it in
      let now = subst (λ (k : K). is_lt (key_cmp cmp item place key k) ≡ false) f here in
      first_of (cmp (item key) (item (get_or done n d))) (nat_cmp (place key) (place (get_or done n d))) now

  -- the walk begins with keys that were sorted
  begun : (keys moved : List K) (ranks : List ℕ) → AreKeys item place xs keys → IsPermutation keys moved → IsSorted (key_cmp cmp item place) moved
      → length ranks ≡ length xs → IsWalk cmp item place xs [] moved [] ranks
  begun keys moved ranks are perm up long = record {
    keys = record {
      holds = All-permutation (λ (k : K). slice_get xs (place k) ≡ Some (item k)) keys moved perm are.holds;
      each = λ n lt. Contains-permutation (map place keys) (map place moved) n (IsPermutation-map place keys moved perm) (are.each n lt);
    };
    up = up;
    long = long;
    ranked = ranked_none o item place xs ranks;
  }

  pub walk_begun : (keys moved left : List K) (kept : List A) (ranks : List ℕ) → AreKeys item place xs keys → IsPermutation keys moved
      → IsSorted (key_cmp cmp item place) moved → left ≡ moved → kept ≡ [] → length ranks ≡ length xs → IsWalk cmp item place xs [] left kept ranks
  walk_begun keys moved left kept ranks are perm up same none long =
      let walk = subst (λ (ks : List K). IsWalk cmp item place xs [] ks [] ranks) (sym same) (begun keys moved ranks are perm up long) in
      subst (λ (ys : List A). IsWalk cmp item place xs [] left ys ranks) (sym none) walk

  -- the next key, and none
  pub walk_at : (done left : List K) (key : K) (rest : List K) (kept : List A) (ranks : List ℕ) → left ≡ key ∷ rest
      → IsWalk cmp item place xs done left kept ranks → IsWalk cmp item place xs done (key ∷ rest) kept ranks
  walk_at done left key rest kept ranks e = subst (λ (ks : List K). IsWalk cmp item place xs done ks kept ranks) e

  pub walk_ended : (done left : List K) (n : ℕ) (kept : List A) (ranks : List ℕ) → n ≡ length left → n ≡ 0
      → IsWalk cmp item place xs done left kept ranks → IsWalk cmp item place xs done [] kept ranks
  walk_ended done [] n kept ranks e f walk = walk
  walk_ended done (k ∷ ks) n kept ranks e f walk = absurd (omega arith)

  -- the place of the next key is that of a thing
  pub walk_place : (done : List K) (key : K) (rest : List K) (kept : List A) (ranks : List ℕ) → IsWalk cmp item place xs done (key ∷ rest) kept ranks
      → slice_get xs (place key) ≡ Some (item key)
  walk_place done key rest kept ranks walk = next_part (λ (k : K). slice_get xs (place k) ≡ Some (item k)) done key rest walk.keys.holds

  pub walk_within : (done : List K) (key : K) (rest : List K) (kept : List A) (ranks : List ℕ) → IsWalk cmp item place xs done (key ∷ rest) kept ranks
      → place key < length ranks
  walk_within done key rest kept ranks walk = omega (arith, walk.long, slice_get_within xs (place key) (item key) (walk_place done key rest kept ranks walk))

  -- and goes on with the next
  pub walk_more : (done : List K) (key : K) (rest : List K) (kept new : List A) (ranks : List ℕ) (r : ℕ) → IsWalk cmp item place xs done (key ∷ rest) kept ranks
      → IsKept kept (item key) new → r + 1 ≡ length new → IsWalk cmp item place xs (done ++ key ∷ []) rest new (set ranks (place key) r)
  walk_more done key rest kept new ranks r walk is last =
      let same : (done ++ key ∷ []) ++ rest ≡ done ++ key ∷ rest = append_assoc done (key ∷ []) rest in
      record {
        keys = subst (AreKeys item place xs) (sym same) walk.keys;
        up = subst (IsSorted (key_cmp cmp item place)) (sym same) walk.up;
        long = length-set ranks (place key) r ∙ walk.long;
        ranked = ranked_more o item place xs done key kept new ranks r
            (left_part (λ (k : K). slice_get xs (place k) ≡ Some (item k)) done (key ∷ rest) walk.keys.holds)
            (walk_place done key rest kept ranks walk) (behind done key rest walk.up) walk.long is last walk.ranked;
      }

  -- at its end all is ranked
  pub walk_sorted : (done : List K) (kept : List A) (ranks : List ℕ) → IsWalk cmp item place xs done [] kept ranks → kept ≡ sorted cmp xs
  walk_sorted done kept ranks walk = kept_sorted o item place xs done (subst (AreKeys item place xs) (append-nil done) walk.keys) kept ranks walk.ranked

  pub walk_ranks : (done : List K) (kept : List A) (ranks : List ℕ) → IsWalk cmp item place xs done [] kept ranks
      → ranks ≡ map (λ (x : A). place_in cmp x (sorted cmp xs)) xs
  walk_ranks done kept ranks walk =
      ranks_places o item place xs done (subst (AreKeys item place xs) (append-nil done) walk.keys) kept ranks walk.ranked walk.long
