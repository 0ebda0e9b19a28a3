use Rattle.std.proofs.Common.{◌≡◌, take}
use Rattle.pi_bytes.specs.Mutf8.{spellings}
use Rattle.pi_bytes.proofs.mutf8.mutf8_of.Given as goal

abbrev pub invariant-loop-unit : goal.invariant-loop-unit
invariant-loop-unit l = l.bytes.items ≡ spellings (take l.unit-index l.units)
