use Rattle.std.proofs.Common.{arith}
use Rattle.pi_dex.proofs.Signs.{small_word}
use Rattle.pi_dex.proofs.inits.small.Goals as goal

pub overflow_cast-result : goal.overflow_cast-result
overflow_cast-result c = omega (arith, small_word c.args.arg c.args.number c.requires.arg c.requires.number)
