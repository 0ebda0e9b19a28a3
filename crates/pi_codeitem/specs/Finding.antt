-- Readers that give nothing where what they read does not hold.
use Rattle.std.specs.Prelude.{◌≡◌, ℕ, Option, Some, None, if◌then◌else◌, List}
use Rattle.pi_bytes.specs.Place.{Place}
use Rattle.pi_insn.specs.Chain.{◌>>=◌}
use Rattle.pi_format.specs.Rules.CodeItems.{Handler, handler_at, handler_holds}

-- a call answers what was to be read, with the new place behind it, or else there was nothing
abbrev pub Finds : {A : Type 0} → Option (A × Place) → Place → Option A → Type 0
Finds read new (Some x) = read ≡ Some (x, new)
Finds read new None = read ≡ None

-- one handler, where it holds
unfoldable pub held_handler : List ℕ → ℕ → Place → Option (Handler × Place)
held_handler file units p = do
  first ← handler_at p
  if handler_holds file units first.0 then Some first else None
