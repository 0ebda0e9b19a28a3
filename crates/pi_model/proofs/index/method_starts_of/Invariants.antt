use Rattle.std.proofs.Common.{◌≡◌, ◌+◌, take, sum_by}
use Rattle.pi_model.specs.Program.{method_count}
use Rattle.pi_model.specs.Index.{starts_from}
use Rattle.pi_model.proofs.index.method_starts_of.Given as goal

abbrev pub invariant-loop-class : goal.invariant-loop-class
invariant-loop-class l = record {
  starts : l.starts.items ≡ starts_from method_count l.before (take l.class-index l.classes);
  next : l.next ≡ l.before + sum_by method_count (take l.class-index l.classes);
}
