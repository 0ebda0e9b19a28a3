use Rattle.std.proofs.Common.{arith, ◌∙◌}
use Rattle.pi_model.specs.Program.{method_count}
use Rattle.pi_model.proofs.Members.{below_all, member_back}
use Rattle.pi_model.proofs.Starts.{some_within, within_starts, start_is}
use Rattle.pi_model.proofs.prog.Prog.method_no.Goals as goal

pub method_start-requires : goal.method_start-requires
method_start-requires c =
    let here = rw (← c.self.view_is) at c.requires in
    within_starts method_count c.self.inside.classes.items c.self.inside.index.method_starts c.args.c.0 c.self.invariant.index.method_starts (some_within _ _ c.args.c.0 here)

pub overflow_add-result : goal.overflow_add-result
overflow_add-result c =
    let here = rw (← c.self.view_is) at c.requires in
    let before = c.method_start.ensures ∙ start_is method_count c.self.inside.classes.items c.self.inside.index.method_starts c.args.c.0 c.self.invariant.index.method_starts (some_within _ _ c.args.c.0 here) in
    omega (arith, below_all method_count c.self.inside.classes.items c.args.c.0 c.args.i here, before, c.self.invariant.program.counted.methods)

pub returns : goal.returns
returns c =
    let here = rw (← c.self.view_is) at c.requires in
    let before = c.method_start.ensures ∙ start_is method_count c.self.inside.classes.items c.self.inside.index.method_starts c.args.c.0 c.self.invariant.index.method_starts (some_within _ _ c.args.c.0 here) in
    rw (← c.self.view_is) (record {
      number = omega (arith, before);
      member = member_back method_count c.self.inside.classes.items 0 c.args.c.0 c.args.i _ _ here (omega (arith, before)) (omega arith);
      below = omega (arith, below_all method_count c.self.inside.classes.items c.args.c.0 c.args.i here, before);
    })
