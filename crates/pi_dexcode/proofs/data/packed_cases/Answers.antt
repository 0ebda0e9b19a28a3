use Rattle.std.proofs.Common.{◌≡◌, ◌∙◌, ◌/◌, length, w32, to_z, of_z}
use Rattle.std.proofs.lemmas.Int.{to_z-of_z}
use Rattle.pi_dexcode.specs.Whole.{packed_case}
use Rattle.pi_format.proofs.Loops.{listed_goes}
use Rattle.pi_dexcode.proofs.data.packed_cases.Goals as goal

pub loop-k-preserved : goal.loop-k-preserved
loop-k-preserved c =
    let z : to_z w32 (of_z w32 c.args.first) ≡ c.args.first = to_z-of_z w32 c.args.first c.ranges.first in
    rw (c.in_ok-push.ensures.items, c.packed_case.ensures)
    (rw z (listed_goes (packed_case c.args.at c.args.first c.args.targets.now) c.loop-k.cases.items c.loop-k.k (length c.args.targets.now / 2) c.loop-k-test.true ∙ rw z at c.loop-k.invariant))
