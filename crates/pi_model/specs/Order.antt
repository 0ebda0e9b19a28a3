-- An index of names by their contents.
use Rattle.std.specs.Prelude.{◌≡◌, ℕ, ◌+◌, ◌<◌, ◌≤◌, Bool, List, [], ◌∷◌, length, slice_index_or}
use Rattle.std.specs.List.{All, Contains}
use Rattle.std.specs.List.Sorted.{IsSortedBy}
use Rattle.std.specs.Ordering.{is_lt, nat_cmp, ordering_then}
use Rattle.std.specs.Cmp.Lexicographic.{slice_cmp}

-- the units of the name of that number, and none past the end
abbrev pub text_at : List (List ℕ) → ℕ → List ℕ
text_at names n = slice_index_or names n []

-- the content of the one name comes before that of the other, or is the same, and the one number before the other
abbrev pub is_before : List (List ℕ) → ℕ → ℕ → Bool
is_before names m n = is_lt (ordering_then (slice_cmp nat_cmp (text_at names m) (text_at names n)) (nat_cmp m n))

-- the numbers first, first + 1, .. of count names, each once, in the order of the names' contents, and of the numbers where contents are the same
pub record IsOrder (names : List (List ℕ)) (first count : ℕ) (order : List ℕ) : Type 0 where
  pub within : first + count ≤ length names
  pub long : length order ≡ count
  pub in_range : All (λ n. (first ≤ n) × (n < first + count)) order
  pub each : (n : ℕ) → first ≤ n → n < first + count → Contains order n
  pub ascending : IsSortedBy (is_before names) order

-- an order for each file in turn, over the names from one on to the last
abbrev pub AreOrders : List (List ℕ) → ℕ → List (List ℕ) → Type 0
AreOrders names from [] = from ≡ length names
AreOrders names from (order ∷ orders) = IsOrder names from (length order) order × AreOrders names (from + length order) orders
