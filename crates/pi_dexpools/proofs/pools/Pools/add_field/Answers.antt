use Rattle.pi_contents.specs.Contents.{FieldName}
use Rattle.pi_contents.specs.Named.{text_in, field_name}
use Rattle.pi_dexpools.specs.declared.gathered.MemberParts.{MemberParts}
use Rattle.pi_dexpools.proofs.Outcomes.{on_ok, if_ok}
use Rattle.pi_dexpools.proofs.There.{FieldSteps, field_added, field_found}
use Rattle.pi_dexpools.proofs.pools.Pools.add_field.Goals as goal

abbrev named : goal.After-add_field_of → FieldName
named c = field_name (text_in c.args.prog.now) c.args.field.now

abbrev parts : goal.After-add_field_of → MemberParts
parts c = record { class = c.in-Ok.class; name = c.in-Ok-add_text.name; kind = c.in-Ok-add_type.kind }

steps : (c : goal.After-add_field_of) → FieldSteps c.args.self.now c.add_type.new.self c.add_text.new.self c.add_type-2.new.self (named c) (parts c)
steps c = record {
  owner = rw c.units_of.ensures at c.in-Ok.ensures.gathered;
  class = rw c.units_of.ensures at c.in-Ok.ensures.place;
  class_there = rw c.units_of.ensures at c.in-Ok.ensures.there;
  text = rw c.units_of-2.ensures at c.in-Ok-add_text.ensures.gathered;
  name = rw c.units_of-2.ensures at c.in-Ok-add_text.ensures.place;
  name_there = rw c.units_of-2.ensures at c.in-Ok-add_text.ensures.there;
  name_grown = c.in-Ok-add_text.ensures.grown;
  type = rw c.units_of-3.ensures at c.in-Ok-add_type.ensures.gathered;
  kind = rw c.units_of-3.ensures at c.in-Ok-add_type.ensures.place;
  kind_grown = c.in-Ok-add_type.ensures.grown;
}

pub returns-clause-gathered : goal.returns-clause-gathered
returns-clause-gathered c =
    on_ok c.add_field_of.result c.add_field_of.ensures.gathered
    (field_added c.args.self.now c.add_type.new.self c.add_text.new.self c.add_type-2.new.self c.add_field_of.new.self (named c) (parts c) (steps c))

pub returns-clause-place : goal.returns-clause-place
returns-clause-place c =
    if_ok c.add_field_of.result c.add_field_of.ensures.gathered c.add_field_of.ensures.place
    (λ added place is. field_found c.args.self.now c.add_type.new.self c.add_text.new.self c.add_type-2.new.self c.add_field_of.new.self (named c) (parts c) place (steps c) added is)
