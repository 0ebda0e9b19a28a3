use Rattle.pi_dexids.specs.Facts.{AreFacts}
use Rattle.pi_dexids.proofs.facts.numbers.Given as goal

abbrev pub invariant-loop-done : goal.invariant-loop-done
invariant-loop-done l = AreFacts (λ k. l.number) l.done l.list.items
