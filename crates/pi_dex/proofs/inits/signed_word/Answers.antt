use Rattle.std.proofs.Common.{arith}
use Rattle.pi_dex.proofs.Signs.{two_signs, word_sign}
use Rattle.pi_dex.proofs.inits.signed_word.Goals as goal

pub extended-requires-clause-half : goal.extended-requires-clause-half
extended-requires-clause-half c = rw c.sign_of-half.ensures (omega (arith, word_sign c.args.arg c.requires.arg))

pub extended-requires-clause-range : goal.extended-requires-clause-range
extended-requires-clause-range c = rw c.sign_of-half.ensures (two_signs c.args.arg c.args.number (omega (arith, c.requires.arg)) c.requires.number)
