use Rattle.pi_dexpools.specs.Gathered.{nothing_gathered, gathered}
use Rattle.pi_poollaws.proofs.Apart.{gathered_apart, nothing_apart}
use Rattle.pi_poollaws.proofs.PutIn.{has_gathered}
use Rattle.pi_poollaws.proofs.Named.{gathered_named}
use Rattle.pi_poollaws.proofs.Members.{types_long, protos_long}
use Rattle.pi_poollaws.proofs.Wholes.{named_are_whole}
use Rattle.pi_poollaws.proofs.Numbers.{numbered}
use Rattle.pi_poollaws.proofs.named_are_gathered.Goals as goal

pub returns-clause-whole : goal.returns-clause-whole
returns-clause-whole c = λ ns. named_are_whole ns (gathered nothing_gathered ns) (gathered_named ns)

pub returns-clause-all : goal.returns-clause-all
returns-clause-all c = numbered

pub returns-clause-types : goal.returns-clause-types
returns-clause-types c = λ ns.
    types_long ns (gathered nothing_gathered ns) (gathered_named ns) (has_gathered nothing_gathered ns) (gathered_apart nothing_gathered ns nothing_apart).types

pub returns-clause-protos : goal.returns-clause-protos
returns-clause-protos c = λ ns.
    protos_long ns (gathered nothing_gathered ns) (gathered_named ns) (has_gathered nothing_gathered ns) (gathered_apart nothing_gathered ns nothing_apart).protos
