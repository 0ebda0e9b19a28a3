use Rattle.std.proofs.Common.{◌≡◌, ◌+◌, take, sum_by}
use Rattle.pi_model.specs.Program.{field_count}
use Rattle.pi_model.specs.Index.{starts_from}
use Rattle.pi_model.proofs.index.field_starts_of.Given as goal

abbrev pub invariant-loop-class : goal.invariant-loop-class
invariant-loop-class l = record {
  starts : l.starts.items ≡ starts_from field_count l.before (take l.class-index l.classes);
  next : l.next ≡ l.before + sum_by field_count (take l.class-index l.classes);
}
