use Rattle.pi_model.specs.Program.{field_count}
use Rattle.pi_model.proofs.Starts.{any_class, few_starts, first_start, placed}
use Rattle.pi_model.proofs.prog.Prog.field.Goals as goal

pub field_place-requires : goal.field_place-requires
field_place-requires c =
    let below = rw (← c.self.view_is) at c.requires in
    record {
      some = any_class field_count c.self.inside.classes.items c.self.inside.index.field_starts c.args.f.0 c.self.invariant.index.field_starts below;
      few = few_starts field_count c.self.inside.classes.items c.self.inside.index.field_starts c.self.invariant.index.field_starts c.self.invariant.program.counted.classes;
      first = first_start field_count c.self.inside.classes.items c.self.inside.index.field_starts c.self.invariant.index.field_starts;
    }

pub returns : goal.returns
returns c =
    let below = rw (← c.self.view_is) at c.requires in
    let is = placed field_count c.self.inside.classes.items c.self.inside.index.field_starts c.field_place.result.0.0 c.field_place.result.1 c.args.f.0 c.self.invariant.index.field_starts below c.field_place.ensures.class c.field_place.ensures.at c.field_place.ensures.next in
    rw (← c.self.view_is) (record { member = is.member; class = is.class; place = is.place; number = is.total })
