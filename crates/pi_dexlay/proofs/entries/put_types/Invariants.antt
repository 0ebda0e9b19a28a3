use Rattle.std.proofs.Common.{◌≡◌, ◌++◌, take}
use Rattle.pi_parts.specs.Parts.{words}
use Rattle.pi_dexlay.proofs.entries.put_types.Given as goal

abbrev pub invariant-loop-string : goal.invariant-loop-string
invariant-loop-string l = l.out.items ≡ l.fn.out.items ++ words (take l.string-index l.types)
