use Rattle.std.proofs.Common.{sym, subst, arith}
use Rattle.pi_format.specs.Says.{HasRoom}
use Rattle.pi_readrows.proofs.chain.no_files.Goals as goal

pub returns : goal.returns
returns c = subst HasRoom (sym c.new.ensures) (record { names = omega arith; types = omega arith; classes = omega arith; fields = omega arith; methods = omega arith })
