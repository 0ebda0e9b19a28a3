use Rattle.std.proofs.Common.{◌+◌, arith}
use Rattle.std.specs.List.{flat_map}
use Rattle.pi_parts.specs.Parts.{offsets}
use Rattle.pi_dextables.specs.Rows.{all_rows, class_data}
use Rattle.pi_dexlay.proofs.SectionSteps.{rows_step, row_offsets_step}
use Rattle.pi_dexlay.proofs.sections.members_section.Goals as goal

pub loop-class-preserved : goal.loop-class-preserved
loop-class-preserved c =
    let begin = c.args.begin in
    let classes = c.args.classes.now in
    let i = c.loop-class.class-index in
    let class = c.class-item.result in
    let rows = all_rows c.args.codes.now classes in
    let codes = c.loop-class.left.now in
    let left = c.in_ok-left.left.now in
    let bytes = c.loop-class.bytes.items in
    let new = c.put_class_data.new.out.items in
    record {
      bytes = rows_step i classes class codes left bytes new (flat_map class_data rows)
          c.loop-class-test.true c.class-item.is c.in_ok-left.ensures.bytes c.in_ok-left.ensures.left c.loop-class.invariant.bytes;
      offsets = row_offsets_step begin i classes class codes left bytes new c.loop-class.offsets.items c.push.new.self.items (offsets class_data begin rows)
          c.offset_of.result (begin + c.len.result) (begin + c.len-in-loop-class.result)
          c.loop-class-test.true c.class-item.is c.in_ok-left.ensures.bytes c.in_ok-left.ensures.left
          (omega (arith, c.len.ensures)) (omega (arith, c.len-in-loop-class.ensures))
          c.offset_of.ensures c.in_ok-push.ensures.items c.loop-class.invariant.offsets;
    }
