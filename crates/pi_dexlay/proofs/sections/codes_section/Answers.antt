use Rattle.std.proofs.Common.{◌++◌, ◌+◌, refl, drop}
use Rattle.pi_parts.specs.Parts.{aligned, aligned_offsets}
use Rattle.pi_dextables.specs.Codes.{code_item}
use Rattle.pi_dextables.specs.Rows.{bodies_in, all_bodies}
use Rattle.pi_dexlay.specs.Heads.{all_fit}
use Rattle.pi_dexlay.proofs.SectionSteps.{aligned_go, aligned_offsets_go, fit_go, class_more}
use Rattle.pi_dexlay.proofs.sections.codes_section.Goals as goal

pub loop-class-preserved : goal.loop-class-preserved
loop-class-preserved c =
    let classes = c.args.classes.now in
    let class = c.class-item.result in
    let begin = c.args.begin in
    let old = c.loop-class.made in
    let mid = c.put_codes.new.made in
    let new = c.put_codes-in-loop-class.new.made in
    let first = bodies_in class.directs in
    let second = bodies_in class.virtuals in
    let rest = all_bodies (drop (c.loop-class.class-index + 1) classes) in
    let left = all_bodies (drop c.loop-class.class-index classes) in
    let e = class_more c.loop-class.class-index classes class c.loop-class-test.true c.class-item.is in
    let put1 = rw c.as_slice.ensures at c.in_ok-put_codes.ensures in
    let put2 = rw c.as_slice-in-loop-class.ensures at c.in_ok-put_codes-2.ensures in
    record {
      bytes = aligned_go code_item begin (second ++ rest) second rest mid.bytes.items new.bytes.items (aligned code_item begin (all_bodies classes)) refl put2.bytes
          (aligned_go code_item begin left first (second ++ rest) old.bytes.items mid.bytes.items (aligned code_item begin (all_bodies classes)) e put1.bytes c.loop-class.invariant.bytes);
      offsets = aligned_offsets_go code_item begin (second ++ rest) second rest mid.bytes.items new.bytes.items mid.offsets.items new.offsets.items
          (aligned_offsets code_item begin (all_bodies classes)) refl put2.bytes put2.offsets
          (aligned_offsets_go code_item begin left first (second ++ rest) old.bytes.items mid.bytes.items old.offsets.items mid.offsets.items
          (aligned_offsets code_item begin (all_bodies classes)) e put1.bytes put1.offsets c.loop-class.invariant.offsets);
      fit = fit_go (second ++ rest) second rest mid.fit new.fit (all_fit (all_bodies classes)) refl put2.fit
          (fit_go left first (second ++ rest) old.fit mid.fit (all_fit (all_bodies classes)) e put1.fit c.loop-class.invariant.fit);
    }
