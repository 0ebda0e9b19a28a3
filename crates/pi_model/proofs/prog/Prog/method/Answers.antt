use Rattle.pi_model.specs.Program.{method_count}
use Rattle.pi_model.proofs.Starts.{any_class, few_starts, first_start, placed}
use Rattle.pi_model.proofs.prog.Prog.method.Goals as goal

pub method_place-requires : goal.method_place-requires
method_place-requires c =
    let below = rw (← c.self.view_is) at c.requires in
    record {
      some = any_class method_count c.self.inside.classes.items c.self.inside.index.method_starts c.args.m.0 c.self.invariant.index.method_starts below;
      few = few_starts method_count c.self.inside.classes.items c.self.inside.index.method_starts c.self.invariant.index.method_starts c.self.invariant.program.counted.classes;
      first = first_start method_count c.self.inside.classes.items c.self.inside.index.method_starts c.self.invariant.index.method_starts;
    }

pub returns : goal.returns
returns c =
    let below = rw (← c.self.view_is) at c.requires in
    let is = placed method_count c.self.inside.classes.items c.self.inside.index.method_starts c.method_place.result.0.0 c.method_place.result.1 c.args.m.0 c.self.invariant.index.method_starts below c.method_place.ensures.class c.method_place.ensures.at c.method_place.ensures.next in
    rw (← c.self.view_is) (record { member = is.member; class = is.class; place = is.place; number = is.total })
