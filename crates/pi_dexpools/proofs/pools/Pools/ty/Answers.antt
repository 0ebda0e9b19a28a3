use Rattle.std.proofs.Common.{ap}
use Rattle.pi_dexpools.specs.declared.gathered.Place.TheVariants.{OfType}
use Rattle.pi_dexpools.proofs.pools.Pools.ty.Goals as goal

pub returns-in-Ok-clause-place : goal.returns-in-Ok-clause-place
returns-in-Ok-clause-place c = ap OfType (rw c.units_of.ensures at c.in-Ok.ensures.place)
