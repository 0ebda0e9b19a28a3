use Rattle.pi_dexpools.specs.Gathered.{gathered}
use Rattle.pi_poollaws.proofs.Grown.{grown_is_cut, grows_gathered}
use Rattle.pi_poollaws.proofs.gathered_are_taken_back.Goals as goal

pub returns : goal.returns
returns c = λ g ns. grown_is_cut g (gathered g ns) (grows_gathered g ns)
