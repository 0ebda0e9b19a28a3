use Rattle.std.proofs.Common.{rules, ◌≡◌, ◌++◌, ◌∷◌, []}
use Rattle.pi_model.specs.Program.{method_count}
use Rattle.pi_model.proofs.Starts.{starts_step, sum_step}
use Rattle.pi_model.proofs.index.method_starts_of.Goals as goal

pub loop-class-preserved : goal.loop-class-preserved
loop-class-preserved c =
    let pushed : c.push.new.self.items ≡ c.loop-class.starts.items ++ c.loop-class.next ∷ [] = search rules in
    record {
      starts = starts_step method_count c.args.before c.args.classes.now c.loop-class.class-index c.class-item.result _ _ c.loop-class.next c.loop-class-test.true c.class-item.is c.loop-class.invariant.starts c.loop-class.invariant.next pushed;
      next = sum_step method_count c.args.before c.args.classes.now c.loop-class.class-index c.class-item.result c.loop-class.next c.len.result c.loop-class-test.true c.class-item.is c.loop-class.invariant.next c.len.ensures;
    }
