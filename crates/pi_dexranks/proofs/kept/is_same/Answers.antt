use Rattle.pi_classtables.proofs.Orders.{IsExactOrder}
use Rattle.pi_dexranks.proofs.Exact.{compared_same}
use Rattle.pi_dexranks.proofs.kept.is_same.Goals as goal

pub returns : goal.returns
returns g c =
    let o : IsExactOrder g.T.Ord.cmp = record { total = g.met.T.Ord.total; same = c.requires } in
    compared_same o c.args.one.now c.args.other.now c.cmp.result c.is_eq.result c.cmp.ensures c.is_eq.ensures
