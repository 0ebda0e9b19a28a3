use Rattle.pi_said.proofs.Fold.{said_has_room}
use Rattle.pi_said.proofs.said_has_room.Goals as goal

pub returns : goal.returns
returns c = said_has_room
