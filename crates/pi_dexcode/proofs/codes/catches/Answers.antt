use Rattle.std.proofs.Common.{◌≡◌, arith, ap, ◌∙◌}
use Rattle.pi_format.specs.Rules.CodeItems.{CodeHead}
use Rattle.pi_format.specs.Says.Codes.{catches_at}
use Rattle.pi_dexcode.proofs.Listing.{flat_go}
use Rattle.pi_dexcode.proofs.Types.{types_there}
use Rattle.pi_dexcode.proofs.codes.catches.Goals as goal

pub add_range-requires-clause-types : goal.add_range-requires-clause-types
add_range-requires-clause-types c = types_there c.args.names.now.file c.args.at c.args.lists.now c.requires.lists

pub loop-k-preserved : goal.loop-k-preserved
loop-k-preserved c =
    let n : c.head.inside.tries ≡ c.args.head.now.tries = ap (λ (h : CodeHead). h.tries) c.head.view_is in
    rw c.in_ok-add_range.ensures
    (flat_go (catches_at c.args.names.now c.args.at c.args.head.now c.args.lists.now) c.loop-k.tries c.loop-k.k c.args.head.now.tries (omega (arith, n)) ∙ c.loop-k.invariant)
