use Rattle.std.proofs.Common.{sym, ap, ◌∙◌, length}
use Rattle.pi_intern.specs.Literals.{without_names}
use Rattle.pi_intern.proofs.Undone.{cleared_last, names_last, names_emptied}
use Rattle.pi_intern.proofs.literals.take_back.Goals as goal

pub loop-n-preserved : goal.loop-n-preserved
loop-n-preserved c =
    let items = c.in-Some.ensures.items in
    let named = rw items at c.loop-n.invariant.named in
    let parts = names_last (length c.loop-n.slots) c.pop.new.self.items c.in-Some.n named in
    record {
      same = sym (cleared_last c.loop-n.slots c.pop.new.self.items c.in-Some.n) ∙ ap (without_names c.loop-n.slots) (sym items) ∙ c.loop-n.invariant.same;
      named = names_emptied c.loop-n.slots c.pop.new.self.items c.in-Some.n.0 parts.0;
      room = c.in-Some.ensures.capacity ∙ c.loop-n.invariant.room;
    }
