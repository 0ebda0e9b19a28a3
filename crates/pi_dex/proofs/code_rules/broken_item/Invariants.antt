use Rattle.std.proofs.Common.{◌≡◌, ◌≤◌, drop}
use Rattle.pi_bytes.specs.Numbers.{most_bytes}
use Rattle.pi_format.specs.Rules.Lowest.{lowest_of}
use Rattle.pi_dex.specs.Shared.{item_place}
use Rattle.pi_dex.proofs.code_rules.broken_item.Given as goal

abbrev pub invariant-loop-i : goal.invariant-loop-i
invariant-loop-i l = (lowest_of (item_place l.file) (drop l.i l.codes) ≡ lowest_of (item_place l.file) l.codes) × (l.total ≤ most_bytes)
