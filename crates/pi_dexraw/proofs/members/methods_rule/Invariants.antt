use Rattle.std.proofs.Common.{◌≡◌, ◌-◌}
use Rattle.pi_format.specs.Tables.{count_at, method_ids}
use Rattle.pi_format.specs.Rules.Entries.{first_bad}
use Rattle.pi_format.specs.Rules.Members.{method_holds}
use Rattle.pi_dexraw.proofs.members.methods_rule.Given as goal

abbrev pub invariant-loop-i : goal.invariant-loop-i
invariant-loop-i l = first_bad (method_holds l.types) l.i (count_at l.types method_ids - l.i) ≡ first_bad (method_holds l.types) 0 (count_at l.types method_ids)
