-- The law stands in Readings.
use Rattle.pi_machine.proofs.Readings.{things_stand_between as law}
use Rattle.pi_machine.proofs.things_stand_between.Goals as goal

pub returns : goal.returns
returns c = law
