use Rattle.pi_duty.proofs.Shapes.{shape_said}
use Rattle.pi_duty.proofs.small_shape.Goals as goal

pub returns : goal.returns
returns c = λ main file p says short below small. shape_said c.core_fits.ensures c.said_keeps.ensures main file short c.classes_are_of_file.ensures below p says small
