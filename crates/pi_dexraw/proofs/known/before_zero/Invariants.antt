use Rattle.std.proofs.Common.{◌≡◌, ◌+◌, drop}
use Rattle.std.specs.Prelude.{◌==◌}
use Rattle.std.specs.List.{position_or_len}
use Rattle.pi_dexraw.proofs.known.before_zero.Given as goal

abbrev pub invariant-loop-i : goal.invariant-loop-i
invariant-loop-i l = position_or_len (λ b. b == 0) (drop l.i l.bytes) + l.i ≡ position_or_len (λ b. b == 0) l.bytes
