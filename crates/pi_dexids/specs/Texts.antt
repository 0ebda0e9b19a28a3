-- Where the units of a text begin.
use Rattle.std.specs.Prelude.{ℕ, ◌+◌, List, drop, Option, Some, None, Result, Ok, Err}
use Rattle.pi_bytes.specs.declared.fault.ReadFault.{ReadFault}
use Rattle.pi_bytes.specs.Leb.{uleb_by}

abbrev pub behind_count : ℕ → Result (ℕ × ℕ) ReadFault → Option (ℕ × ℕ)
behind_count at (Err fault) = None
behind_count at (Ok x) = Some (x.0, at + x.1)

-- how many units the text at an offset has, and the place of the first
unfoldable pub head_at : List ℕ → ℕ → Option (ℕ × ℕ)
head_at file at = behind_count at (uleb_by 4 (drop at file))
