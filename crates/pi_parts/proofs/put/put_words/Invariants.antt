use Rattle.std.proofs.Common.{◌≡◌, ◌++◌, take}
use Rattle.pi_parts.specs.Parts.{words}
use Rattle.pi_parts.proofs.put.put_words.Given as goal

abbrev pub invariant-loop-x : goal.invariant-loop-x
invariant-loop-x l = l.out.items ≡ l.fn.out.items ++ words (take l.x-index l.xs)
