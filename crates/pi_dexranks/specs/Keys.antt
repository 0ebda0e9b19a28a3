-- Things beside the places where they stood.
use Rattle.std.specs.Prelude.{◌≡◌, ℕ, ◌<◌, List, Some, length, map, slice_get}
use Rattle.std.specs.List.{All, Contains}

-- each key holds a thing and its place, and each place has a key
pub record AreKeys {A K : Type 0} (item : K → A) (place : K → ℕ) (xs : List A) (keys : List K) : Type 0 where
  pub holds : All (λ k. slice_get xs (place k) ≡ Some (item k)) keys
  pub each : (n : ℕ) → n < length xs → Contains (map place keys) n
