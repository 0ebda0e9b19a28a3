use Rattle.pi_format.specs.Says.{HasRoom}
use Rattle.pi_readrows.proofs.chain.add_all.Given as goal

abbrev pub invariant-loop-file : goal.invariant-loop-file
invariant-loop-file l = HasRoom l.prog
