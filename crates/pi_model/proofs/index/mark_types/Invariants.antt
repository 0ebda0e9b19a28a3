use Rattle.std.proofs.Common.{take}
use Rattle.pi_model.specs.Index.{IsFirsts, type_name}
use Rattle.pi_model.proofs.index.mark_types.Given as goal

abbrev pub invariant-loop-place : goal.invariant-loop-place
invariant-loop-place l = IsFirsts type_name l.slots (take l.place l.types)
