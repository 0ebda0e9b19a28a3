use Rattle.std.proofs.Common.{rules}
use Rattle.std.proofs.lemmas.List.{with_items_is}
use Rattle.pi_model.specs.Program.{method_count, field_count}
use Rattle.pi_model.specs.Index.{type_name, class_name}
use Rattle.pi_model.proofs.Starts.{rest_fits, rest_total, rest_starts, firsts_made, firsts_same, room_same}
use Rattle.pi_model.proofs.index.Index.mark_all.Goals as goal

pub method_starts_of-requires : goal.method_starts_of-requires
method_starts_of-requires c =
    let old = rw (← c.self.view_is) at c.requires.old in
    rest_fits method_count c.args.classes.now c.args.old_classes c.self.inside.methods old.methods c.requires.few_methods

pub field_starts_of-requires : goal.field_starts_of-requires
field_starts_of-requires c =
    let old = rw (← c.self.view_is) at c.requires.old in
    rest_fits field_count c.args.classes.now c.args.old_classes c.self.inside.fields old.fields c.requires.few_fields

pub mark_types-requires-clause-old : goal.mark_types-requires-clause-old
mark_types-requires-clause-old c =
    let old = rw (← c.self.view_is) at c.requires.old in
    firsts_made type_name c.self.inside.type_slots.items _ c.grow_all.new.types.items _ _ (search rules) c.in_ok-grow_all.ensures.types old.types

pub mark_classes-requires-clause-old : goal.mark_classes-requires-clause-old
mark_classes-requires-clause-old c =
    let old = rw (← c.self.view_is) at c.requires.old in
    firsts_made class_name c.self.inside.class_slots.items _ c.grow_all.new.classes.items _ _ (search rules) c.in_ok-grow_all.ensures.classes old.classes

pub returns-clause-ok : goal.returns-clause-ok
returns-clause-ok c =
    let old = rw (← c.self.view_is) at c.requires.old in
    let types = with_items_is c.grow_all.new.types c.mark_types.new.slots (search rules) in
    let classes = with_items_is c.grow_all.new.classes c.mark_classes.new.slots (search rules) in
    record {
      type_room = room_same _ c.mark_types.new.slots c.args.names types (search rules);
      class_room = room_same _ c.mark_classes.new.slots c.args.names classes (search rules);
      types = firsts_same type_name _ c.mark_types.new.slots _ types c.mark_types.ensures;
      classes = firsts_same class_name _ c.mark_classes.new.slots _ classes c.mark_classes.ensures;
      method_starts = rest_starts method_count c.args.classes.now c.args.old_classes c.self.inside.methods c.self.inside.method_starts.items c.in_ok-method_starts.method_starts.items _ old.method_starts old.methods c.in_ok-method_starts.ensures.starts c.in_ok-grow_all.ensures.methods;
      field_starts = rest_starts field_count c.args.classes.now c.args.old_classes c.self.inside.fields c.self.inside.field_starts.items c.in_ok-field_starts.field_starts.items _ old.field_starts old.fields c.in_ok-field_starts.ensures.starts c.in_ok-grow_all.ensures.fields;
      methods = rest_total method_count c.args.classes.now c.args.old_classes c.self.inside.methods _ old.methods c.in_ok-method_starts.ensures.total;
      fields = rest_total field_count c.args.classes.now c.args.old_classes c.self.inside.fields _ old.fields c.in_ok-field_starts.ensures.total;
    }
