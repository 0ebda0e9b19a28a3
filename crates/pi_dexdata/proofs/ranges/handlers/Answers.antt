use Rattle.std.proofs.Common.{ap, ◌∙◌}
use Rattle.pi_classtables.specs.Ranges.{lists_of, ranges_of}
use Rattle.pi_dexdata.proofs.Entries.{in_order, in_reach, groups_are}
use Rattle.pi_dexdata.proofs.ranges.handlers.Goals as goal

pub groups_of-requires-clause-order : goal.groups_of-requires-clause-order
groups_of-requires-clause-order c = in_order c.args.tries.now c.requires.spelled

pub groups_of-requires-clause-size : goal.groups_of-requires-clause-size
groups_of-requires-clause-size c = in_reach c.args.tries.now c.requires.spelled

pub returns : goal.returns
returns c = λ p text are.
    let is = groups_are p text c.args.tries.now c.args.types.now c.in_ok-groups.groups c.in_ok-groups.ensures are in
    (c.in_ok-handlers.ensures.ranges ∙ ap ranges_of is, c.in_ok-handlers.ensures.lists ∙ ap lists_of is)
