use Rattle.std.proofs.Common.{◌≡◌, ◌∙◌}
use Rattle.pi_contents.specs.Contents.{Prototype}
use Rattle.pi_contents.specs.Named.{text_in, prototype}
use Rattle.pi_contents.specs.Naming.{short_form}
use Rattle.pi_dexpools.specs.declared.gathered.ProtoParts.{ProtoParts}
use Rattle.pi_dexpools.proofs.Outcomes.{on_ok, if_ok}
use Rattle.pi_dexpools.proofs.There.{ProtoSteps, proto_added, proto_found}
use Rattle.pi_dexpools.proofs.pools.Pools.add_proto.Goals as goal

abbrev named : goal.After-drop-letters-2 → Prototype
named c = prototype (text_in c.args.prog.now) c.args.params.now c.args.ret

abbrev parts : goal.After-drop-letters-2 → ProtoParts
parts c = record { short = c.in-Ok-add_text.short; ret = c.in-Ok-add_type.ret; params = c.in-Ok-add_params.params }

steps : (c : goal.After-drop-letters-2) → ProtoSteps c.args.self.now c.add_text.new.self c.add_type.new.self c.add_params.new.self (named c) (parts c)
steps c =
    let form : c.as_slice.result.now ≡ short_form (named c) = c.as_slice.ensures.value ∙ c.in-Ok.ensures in
    record {
      text = rw form at c.in-Ok-add_text.ensures.gathered;
      short = rw form at c.in-Ok-add_text.ensures.place;
      text_there = rw form at c.in-Ok-add_text.ensures.there;
      result = rw c.units_of.ensures at c.in-Ok-add_type.ensures.gathered;
      ret = rw c.units_of.ensures at c.in-Ok-add_type.ensures.place;
      ret_there = rw c.units_of.ensures at c.in-Ok-add_type.ensures.there;
      ret_grown = c.in-Ok-add_type.ensures.grown;
      types = c.in-Ok-add_params.ensures.gathered;
      params = c.in-Ok-add_params.ensures.places;
      params_grown = c.in-Ok-add_params.ensures.grown;
    }

pub returns-clause-gathered : goal.returns-clause-gathered
returns-clause-gathered c =
    on_ok c.add_proto_of.result c.add_proto_of.ensures.gathered
    (proto_added c.args.self.now c.add_text.new.self c.add_type.new.self c.add_params.new.self c.add_proto_of.new.self (named c) (parts c) (steps c))

pub returns-clause-place : goal.returns-clause-place
returns-clause-place c =
    if_ok c.add_proto_of.result c.add_proto_of.ensures.gathered c.add_proto_of.ensures.place
    (λ added place is. proto_found c.args.self.now c.add_text.new.self c.add_type.new.self c.add_params.new.self c.add_proto_of.new.self (named c) (parts c) place (steps c) added is)
