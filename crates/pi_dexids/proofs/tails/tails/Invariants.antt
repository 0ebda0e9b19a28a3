use Rattle.std.proofs.Common.{◌≡◌, ◌-◌, ◌≤◌}
use Rattle.std.specs.Prelude.{is_some}
use Rattle.pi_bytes.specs.Numbers.{most_bytes}
use Rattle.pi_format.specs.Tables.{count_at, string_ids}
use Rattle.pi_format.specs.Rules.Entries.{first_bad}
use Rattle.pi_format.specs.Rules.Strings.{string_text, string_units}
use Rattle.pi_dexids.specs.Facts.{AreFacts}
use Rattle.pi_dexids.specs.Tails.{tail_of}
use Rattle.pi_dexids.proofs.tails.tails.Given as goal

abbrev pub invariant-loop-i : goal.invariant-loop-i
invariant-loop-i l =
    (AreFacts (λ k. tail_of (string_units l.file k)) l.i l.list.items)
    × (first_bad (λ k. is_some (string_text l.file k)) l.i (count_at l.file string_ids - l.i) ≡ first_bad (λ k. is_some (string_text l.file k)) 0 (count_at l.file string_ids))
    × (l.room ≤ most_bytes)
