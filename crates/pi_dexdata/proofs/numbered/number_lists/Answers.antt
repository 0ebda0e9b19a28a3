use Rattle.pi_dexdata.proofs.RangesMore.{lists_step, ranges_step}
use Rattle.pi_dexdata.proofs.numbered.number_lists.Goals as goal

pub loop-group-preserved : goal.loop-group-preserved
loop-group-preserved c =
    let done = c.loop-group.yielded in
    let part = c.group.inside in
    record {
      spellings = c.in_ok-list.ensures.spellings;
      lists = lists_step done part.from part.size part.catches c.in-Some.group c.loop-group.lists c.list_number.new.lists
          c.group.view_is c.loop-group.invariant.lists c.in_ok-list.ensures.lists;
      ranges = ranges_step done part.from part.size part.catches c.in-Some.group c.loop-group.lists c.list_number.new.lists
          c.in_ok-list.list c.loop-group.ranges c.push.new.self
          c.group.view_is c.loop-group.invariant.lists c.in_ok-list.ensures.lists c.in_ok-list.ensures.number
          c.loop-group.invariant.ranges c.in_ok-push.ensures.ok;
    }
