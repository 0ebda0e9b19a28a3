use Rattle.std.proofs.Common.{take}
use Rattle.pi_model.specs.Index.{IsFirsts, class_name}
use Rattle.pi_model.proofs.index.mark_classes.Given as goal

abbrev pub invariant-loop-place : goal.invariant-loop-place
invariant-loop-place l = IsFirsts class_name l.slots (take l.place l.classes)
