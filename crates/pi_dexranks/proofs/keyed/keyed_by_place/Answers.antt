use Rattle.std.proofs.Common.{rules}
use Rattle.pi_dexranks.proofs.Keying.{keyed_more}
use Rattle.pi_dexranks.proofs.keyed.keyed_by_place.Goals as goal

pub loop-list-preserved : goal.loop-list-preserved
loop-list-preserved g c =
    let more = keyed_more c.loop-list.yielded c.in-Some.list c.loop-list.keyed.items c.push.new.self.items c.into_vec.result c.in_ok-place.place
    c.in_ok-push.ensures.items c.loop-list.invariant.long c.into_vec.ensures (search rules) c.loop-list.invariant.keys in
    record { long = more.0; keys = more.1 }
