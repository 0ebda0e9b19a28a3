use Rattle.pi_poollaws.proofs.Numbers.{places_numbered}
use Rattle.pi_poollaws.proofs.places_are_numbered.Goals as goal

pub returns : goal.returns
returns c = places_numbered
