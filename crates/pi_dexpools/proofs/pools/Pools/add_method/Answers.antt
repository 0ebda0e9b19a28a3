use Rattle.pi_contents.specs.Contents.{MethodName}
use Rattle.pi_contents.specs.Named.{text_in, prototype}
use Rattle.pi_dexpools.specs.declared.gathered.MemberParts.{MemberParts}
use Rattle.pi_dexpools.proofs.Outcomes.{on_ok, if_ok}
use Rattle.pi_dexpools.proofs.There.{MethodSteps, method_added, method_found}
use Rattle.pi_dexpools.proofs.pools.Pools.add_method.Goals as goal

abbrev named : goal.After-add_method_of → MethodName
named c = record { class = text_in c.args.prog.now c.args.class; name = text_in c.args.prog.now c.args.name; proto = prototype (text_in c.args.prog.now) c.args.params.now c.args.ret }

abbrev parts : goal.After-add_method_of → MemberParts
parts c = record { class = c.in-Ok.class; name = c.in-Ok-add_text.name; kind = c.in-Ok-add_proto.kind }

steps : (c : goal.After-add_method_of) → MethodSteps c.args.self.now c.add_type.new.self c.add_text.new.self c.add_proto.new.self (named c) (parts c)
steps c = record {
  owner = rw c.units_of.ensures at c.in-Ok.ensures.gathered;
  class = rw c.units_of.ensures at c.in-Ok.ensures.place;
  class_there = rw c.units_of.ensures at c.in-Ok.ensures.there;
  text = rw c.units_of-2.ensures at c.in-Ok-add_text.ensures.gathered;
  name = rw c.units_of-2.ensures at c.in-Ok-add_text.ensures.place;
  name_there = rw c.units_of-2.ensures at c.in-Ok-add_text.ensures.there;
  name_grown = c.in-Ok-add_text.ensures.grown;
  proto = c.in-Ok-add_proto.ensures.gathered;
  kind = c.in-Ok-add_proto.ensures.place;
  kind_grown = c.in-Ok-add_proto.ensures.grown;
}

pub returns-clause-gathered : goal.returns-clause-gathered
returns-clause-gathered c =
    on_ok c.add_method_of.result c.add_method_of.ensures.gathered
    (method_added c.args.self.now c.add_type.new.self c.add_text.new.self c.add_proto.new.self c.add_method_of.new.self (named c) (parts c) (steps c))

pub returns-clause-place : goal.returns-clause-place
returns-clause-place c =
    if_ok c.add_method_of.result c.add_method_of.ensures.gathered c.add_method_of.ensures.place
    (λ added place is. method_found c.args.self.now c.add_type.new.self c.add_text.new.self c.add_proto.new.self c.add_method_of.new.self (named c) (parts c) place (steps c) added is)
