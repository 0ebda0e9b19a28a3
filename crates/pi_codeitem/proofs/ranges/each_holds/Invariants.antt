use Rattle.std.proofs.Common.{◌≡◌, ◌-◌}
use Rattle.pi_format.specs.Rules.Entries.{each_from}
use Rattle.pi_format.specs.Rules.CodeItems.{range_holds}
use Rattle.pi_codeitem.proofs.ranges.each_holds.Given as goal

abbrev pub invariant-loop-k : goal.invariant-loop-k
invariant-loop-k l = each_from (range_holds l.file l.begin l.units) l.k (l.n - l.k) ≡ each_from (range_holds l.file l.begin l.units) 0 l.n
