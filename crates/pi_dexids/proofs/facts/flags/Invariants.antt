use Rattle.std.specs.Prelude.{false}
use Rattle.pi_dexids.specs.Facts.{AreFacts}
use Rattle.pi_dexids.proofs.facts.flags.Given as goal

abbrev pub invariant-loop-done : goal.invariant-loop-done
invariant-loop-done l = AreFacts (λ k. false) l.done l.list.items
