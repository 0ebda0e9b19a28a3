use Rattle.std.proofs.Common.{◌≡◌, drop}
use Rattle.std.specs.List.{list_all}
use Rattle.pi_duty.specs.Small.{is_plain_text}
use Rattle.pi_small.proofs.small.has_plain_names.Given as goal

abbrev pub invariant-loop-n : goal.invariant-loop-n
invariant-loop-n l = list_all is_plain_text (drop l.n l.prog.names) ≡ list_all is_plain_text l.prog.names
