use Rattle.std.proofs.Common.{◌≡◌, ℕ, ◌≤◌, List, length}
use Rattle.pi_contents.specs.Named.{text_in}
use Rattle.pi_classtables.specs.Numbers.{Pools}
use Rattle.pi_dexrows.specs.Rows.{method_numbers}
use Rattle.pi_dexrows.proofs.ListSteps.{MethodsMade}
use Rattle.pi_dexrows.proofs.rows.rows_of.Given as goal

abbrev pub invariant-loop-place : goal.invariant-loop-place
invariant-loop-place l = (p : Pools) (class : List ℕ) → length p.types ≤ 65535 → l.fn.numbers ≡ method_numbers p (text_in l.prog) class l.methods
    → MethodsMade p (text_in l.prog) class l.methods l.sparse l.place l.left l.lists
