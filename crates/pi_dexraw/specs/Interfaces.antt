-- Lists of the interfaces of class definitions, each judged once: marks of the types in a list, and from which definition on
-- the types of a list stand earlier.
use Rattle.std.proofs.Common.{get_or}
use Rattle.std.specs.Prelude.{◌≡◌, ◌<◌, ◌+◌, ◌*◌, ℕ, List, length, slice_get, Option, Some, None, Bool, false, ◌&&◌, nat_le, nat_eq}
use Rattle.std.specs.List.{list_all}
use Rattle.pi_model.specs.Distinct.{all_distinct}
use Rattle.pi_format.specs.Tables.{count_at, class_defs}
use Rattle.pi_format.specs.Rules.Entries.{list_at}
use Rattle.pi_format.specs.Rules.Classes.{is_class_id, stands_earlier}

-- the numbers of a list are below a bound
pub record AreInRange (n : ℕ) (list : List ℕ) : Type 0 where
  pub below : (k : ℕ) → k < length list → get_or list k 0 < n

-- none before a definition of that number, or else none at all
abbrev pub none_before : Option ℕ → ℕ → Bool
none_before None i = false
none_before (Some n) i = nat_le n i

-- from which definition on types are classes that stand earlier, if from any
pub record AreFaces (file faces : List ℕ) (from : Option ℕ) : Type 0 where
  pub each : (i : ℕ) → i < count_at file class_defs → list_all (λ t. is_class_id file t && stands_earlier file i t) faces ≡ none_before from i

-- the same of types that are distinct too
pub record AreJudged (file faces : List ℕ) (from : Option ℕ) : Type 0 where
  pub each : (i : ℕ) → i < count_at file class_defs
      → (list_all (λ t. is_class_id file t && stands_earlier file i t) faces && all_distinct nat_eq faces) ≡ none_before from i

-- for a multiple of four, 0, or else the number behind that from which on the list there is so
pub record AreKnown (file known : List ℕ) : Type 0 where
  pub each : (k n : ℕ) → slice_get known k ≡ Some (n + 1) → AreJudged file (list_at file (4 * k)) (Some n)
