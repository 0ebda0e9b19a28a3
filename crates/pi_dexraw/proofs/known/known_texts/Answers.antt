use Rattle.pi_dexraw.specs.Whole.{known_of}
use Rattle.pi_dexids.proofs.Lists.{facts_pushed}
use Rattle.pi_dexraw.proofs.known.known_texts.Goals as goal

pub loop-i-preserved : goal.loop-i-preserved
loop-i-preserved c =
    let items = c.in_ok-push.ensures.items in
    rw items (facts_pushed (known_of c.args.file.now) c.loop-i.i c.loop-i.list.items c.known_text_of.result c.loop-i.invariant c.known_text_of.ensures)
