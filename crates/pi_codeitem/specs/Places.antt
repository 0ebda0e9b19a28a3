-- Things in the order of their places.
use Rattle.std.specs.Prelude.{◌≡◌, ◌<◌, ℕ, List, length, map, slice_index}
use Rattle.pi_bytes.specs.Numbers.{word_end}

-- each number is below all later ones
pub record Rises (xs : List ℕ) : Type 0 where
  pub each : (i j : ℕ) → i < j → j < length xs → slice_index xs i < slice_index xs j

-- the places of things, which rise
pub record ArePlaces {A : Type 0} (place : A → ℕ) (places : List ℕ) (things : List A) : Type 0 where
  pub named : places ≡ map place things
  pub rise : Rises places

-- the numbers are below a bound
pub record AreBelow (n : ℕ) (xs : List ℕ) : Type 0 where
  pub each : (k : ℕ) → k < length xs → slice_index xs k < n

-- places that rise and are numbers of 32 bits
pub record AreStarts {A : Type 0} (place : A → ℕ) (places : List ℕ) (things : List A) : Type 0 where
  pub named : ArePlaces place places things
  pub small : AreBelow word_end places
