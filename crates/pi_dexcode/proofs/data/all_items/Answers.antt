use Rattle.std.proofs.Common.{◌∙◌}
use Rattle.pi_format.specs.Says.Insns.{item_of}
use Rattle.pi_format.proofs.Loops.{listed_goes}
use Rattle.pi_dexcode.proofs.Items.{fewer_items}
use Rattle.pi_dexcode.proofs.data.all_items.Goals as goal

pub item-requires : goal.item-requires
item-requires c = fewer_items c.args.width c.loop-k.k c.args.size c.args.units.now c.loop-k-test.true c.requires

pub loop-k-preserved : goal.loop-k-preserved
loop-k-preserved c =
    rw (c.in_ok-push.ensures.items, c.item.ensures)
    (listed_goes (item_of c.args.width c.args.units.now) c.loop-k.items.items c.loop-k.k c.args.size c.loop-k-test.true ∙ c.loop-k.invariant)
