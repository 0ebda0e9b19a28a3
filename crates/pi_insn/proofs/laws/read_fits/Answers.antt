use Rattle.pi_insn.proofs.Fits.{read_fits as read_fits_lem}
use Rattle.pi_insn.proofs.laws.read_fits.Goals as goal

pub returns : goal.returns
returns c = read_fits_lem
