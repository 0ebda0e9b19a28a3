use Rattle.std.proofs.Common.{◌∙◌, ◌/◌, length}
use Rattle.pi_dexcode.specs.Whole.{sparse_case}
use Rattle.pi_format.proofs.Loops.{listed_goes}
use Rattle.pi_dexcode.proofs.data.sparse_cases.Goals as goal

pub loop-k-preserved : goal.loop-k-preserved
loop-k-preserved c =
    rw (c.in_ok-push.ensures.items, c.sparse_case.ensures)
    (listed_goes (sparse_case c.args.at c.args.keys.now c.args.targets.now) c.loop-k.cases.items c.loop-k.k (length c.args.targets.now / 2) c.loop-k-test.true ∙ c.loop-k.invariant)
