use Rattle.std.proofs.Common.{◌≡◌, ◌<◌, ◌-◌, ℕ, true}
use Rattle.pi_format.specs.Tables.{count_at, proto_ids}
use Rattle.pi_format.specs.Rules.Entries.{first_bad}
use Rattle.pi_format.specs.Rules.Members.{proto_holds}
use Rattle.pi_dexraw.proofs.protos.protos_rule.Given as goal

abbrev pub invariant-loop-i : goal.invariant-loop-i
invariant-loop-i l = record {
  earlier : (k : ℕ) → k < l.i → proto_holds l.types k ≡ true;
  so_far : first_bad (proto_holds l.types) l.i (count_at l.types proto_ids - l.i) ≡ first_bad (proto_holds l.types) 0 (count_at l.types proto_ids);
}
