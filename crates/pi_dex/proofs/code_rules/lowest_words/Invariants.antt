use Rattle.std.proofs.Common.{◌≡◌, drop}
use Rattle.pi_format.specs.Rules.Lowest.{lower, lowest_of}
use Rattle.pi_dex.specs.Shared.{words_place}
use Rattle.pi_dex.proofs.code_rules.lowest_words.Given as goal

abbrev pub invariant-loop-i : goal.invariant-loop-i
invariant-loop-i l = lower l.lowest (lowest_of (words_place l.raw) (drop l.i l.rows)) ≡ lowest_of (words_place l.raw) l.rows
