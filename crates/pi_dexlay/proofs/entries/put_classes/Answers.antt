use Rattle.std.proofs.Common.{◌++◌, get_or, refl}
use Rattle.std.specs.List.{flat_map}
use Rattle.pi_parts.specs.Parts.{words}
use Rattle.pi_dexlay.specs.Sections.{all_definitions}
use Rattle.pi_dexlay.proofs.TableSteps.{class_step}
use Rattle.pi_dexlay.proofs.entries.put_classes.Goals as goal

pub loop-i-preserved : goal.loop-i-preserved
loop-i-preserved c =
    class_step c.args.pools.now c.args.made.now c.loop-i.i c.args.classes.now c.args.members.now c.index-classes-i.result (get_or c.args.members.now c.loop-i.i 0)
    c.loop-i.out.items c.put_class.new.out.items
    (c.args.out.now.items ++ flat_map words (all_definitions c.args.pools.now c.args.made.now c.args.classes.now c.args.members.now))
    c.loop-i-test.true c.requires.members c.index-classes-i.is refl c.in_ok-put_class.ensures c.loop-i.invariant
