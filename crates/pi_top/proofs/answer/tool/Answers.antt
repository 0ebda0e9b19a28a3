use Rattle.std.proofs.Common.{map, string_bytes}
use Rattle.pi_top.proofs.Obeying.{obeys_of}
use Rattle.pi_top.proofs.answer.tool.Goals as goal

pub returns : goal.returns
returns g c =
    obeys_of c.owes_once.ensures c.small_class.ensures (map string_bytes c.args.words.now.items)
    (g.S.Store.view c.args.store.now) (g.S.Store.view c.answer-outcome.new.store) (g.O.Sink.view c.args.out.now) (g.O.Sink.view c.answer-outcome.new.out)
    (g.E.Sink.view c.args.err.now) (g.E.Sink.view c.tell.new.err)
    c.answer-outcome.result c.status.result c.status.ensures c.answer-outcome.ensures.gives c.tell.ensures
    c.answer-outcome.ensures.usage c.answer-outcome.ensures.raised c.answer-outcome.ensures.wrote c.answer-outcome.ensures.only_reads
