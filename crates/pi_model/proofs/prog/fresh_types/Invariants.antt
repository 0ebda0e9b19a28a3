use Rattle.std.proofs.Common.{◌≡◌, take, filter, is_none, slice_index_or, None}
use Rattle.pi_model.proofs.prog.fresh_types.Given as goal

abbrev pub invariant-loop-t : goal.invariant-loop-t
invariant-loop-t l = l.fresh.items ≡ filter (λ t. is_none (slice_index_or l.index.type_slots t.0 None)) (take l.t-index l.types)
