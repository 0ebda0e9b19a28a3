use Rattle.pi_duty.proofs.Shapes.{class_said}
use Rattle.pi_duty.proofs.small_class.Goals as goal

pub returns : goal.returns
returns c = λ main file kept short small. class_said c.core_fits.ensures c.said_keeps.ensures main file short kept small
