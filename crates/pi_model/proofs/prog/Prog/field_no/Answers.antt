use Rattle.std.proofs.Common.{arith, ◌∙◌}
use Rattle.pi_model.specs.Program.{field_count}
use Rattle.pi_model.proofs.Members.{below_all, member_back}
use Rattle.pi_model.proofs.Starts.{some_within, within_starts, start_is}
use Rattle.pi_model.proofs.prog.Prog.field_no.Goals as goal

pub field_start-requires : goal.field_start-requires
field_start-requires c =
    let here = rw (← c.self.view_is) at c.requires in
    within_starts field_count c.self.inside.classes.items c.self.inside.index.field_starts c.args.c.0 c.self.invariant.index.field_starts (some_within _ _ c.args.c.0 here)

pub overflow_add-result : goal.overflow_add-result
overflow_add-result c =
    let here = rw (← c.self.view_is) at c.requires in
    let before = c.field_start.ensures ∙ start_is field_count c.self.inside.classes.items c.self.inside.index.field_starts c.args.c.0 c.self.invariant.index.field_starts (some_within _ _ c.args.c.0 here) in
    omega (arith, below_all field_count c.self.inside.classes.items c.args.c.0 c.args.i here, before, c.self.invariant.program.counted.fields)

pub returns : goal.returns
returns c =
    let here = rw (← c.self.view_is) at c.requires in
    let before = c.field_start.ensures ∙ start_is field_count c.self.inside.classes.items c.self.inside.index.field_starts c.args.c.0 c.self.invariant.index.field_starts (some_within _ _ c.args.c.0 here) in
    rw (← c.self.view_is) (record {
      number = omega (arith, before);
      member = member_back field_count c.self.inside.classes.items 0 c.args.c.0 c.args.i _ _ here (omega (arith, before)) (omega arith);
      below = omega (arith, below_all field_count c.self.inside.classes.items c.args.c.0 c.args.i here, before);
    })
