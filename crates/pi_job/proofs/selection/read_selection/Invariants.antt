use Rattle.std.proofs.Common.{◌≡◌, ℕ, length}
use Rattle.std.specs.Ordering.{nat_cmp}
use Rattle.std.specs.BTreeSet.{contains}
use Rattle.std.specs.List.{list_any}
use Rattle.pi_job.specs.Lines.{lines}
use Rattle.pi_job.specs.Telling.{told_from}
use Rattle.pi_job.specs.Selection.{is_class, class_added, whole_selection, selection_of}
use Rattle.pi_job.proofs.selection.read_selection.Given as goal

abbrev pub invariant-loop-rest : goal.invariant-loop-rest
invariant-loop-rest l = record {
  so_far : told_from (class_added l.prog l.file.0) whole_selection l.classes l.n (lines l.rest) ≡ selection_of l.prog l.file.0 l.bytes;
  seen : (q : ℕ) → contains nat_cmp l.seen q ≡ list_any (is_class q) l.classes;
}

abbrev pub decreases-loop-rest : goal.decreases-loop-rest
decreases-loop-rest l = length l.rest
