use Rattle.std.proofs.Common.{◌≡◌, drop}
use Rattle.pi_model.specs.Texts.{same_text}
use Rattle.pi_small.proofs.small.has_bytes.Given as goal

abbrev pub invariant-loop-i : goal.invariant-loop-i
invariant-loop-i l = same_text (drop l.i l.units) (drop l.i l.bytes) ≡ same_text l.units l.bytes
