-- That what the rules X13 to X16 ask of what classes name, they ask of the entries of their tables.
use Rattle.std.proofs.Common.{◌≡◌, List, map, Some, sym, ◌∙◌, ap, subst}
use Rattle.std.specs.Prelude.{IsTrue}
use Rattle.std.specs.List.{list_all}
use Rattle.pi_format.specs.Rules.Descriptors.{is_descriptor}
use Rattle.pi_dextables.specs.declared.tables.Class.{Class}
use Rattle.pi_dextables.specs.declared.tables.Tables.{Tables}
use Rattle.pi_contents.specs.Naming.{named_by, types_named, protos_named, fields_named, methods_named}
use Rattle.pi_contents.specs.Asked.{proto_fits, field_fits, method_fits}
use Rattle.pi_tablesaid.specs.Entries.{text_at, prototype_of, field_of, method_of}
use Rattle.pi_classtables.specs.Sorted.{text_order}
use Rattle.pi_classtables.specs.Numbers.{Pools, pools_of, string_no, proto_order, field_order, method_order, proto_entry, field_entry, method_entry}
use Rattle.pi_classtables.specs.Whole.{Added, classes_added, tables_with, pools_for, tables_of}
use Rattle.pi_classtables.proofs.Sortings.{tests_sorted}
use Rattle.pi_classlaws.proofs.Known.{HoldsType, HoldsProto, HoldsField, HoldsMethod, each_again, text_again, proto_entry_again, field_entry_again, method_entry_again}
use Rattle.pi_classtables.proofs.PoolsHold.{PoolsHold, pools_hold}
use Rattle.pi_classtables.proofs.Parts.{tables_parts}

-- entries say the things that they were made of
pub record EntriesSaid (p : Pools) (t : Tables) : Type 0 where
  pub types : map (text_at t) t.types ≡ p.types
  pub protos : map (prototype_of t) t.protos ≡ p.protos
  pub fields : map (field_of t) t.fields ≡ p.fields
  pub methods : map (method_of t) t.methods ≡ p.methods

with_said : (p : Pools) (classes : List Class) → PoolsHold p → EntriesSaid p (tables_with p classes)
with_said p classes hold = (let t = tables_with p classes in record {
  types = each_again (HoldsType p) (text_at t) (string_no p) (λ u h. text_again p classes u h.text) p.types hold.types;
  protos = each_again (HoldsProto p) (prototype_of t) (proto_entry p) (proto_entry_again p classes) p.protos hold.protos;
  fields = each_again (HoldsField p) (field_of t) (field_entry p) (field_entry_again p classes) p.fields hold.fields;
  methods = each_again (HoldsMethod p) (method_of t) (method_entry p) (method_entry_again p classes) p.methods hold.methods;
})

pub entries_said : (es : List Added) (t : Tables) → tables_of es ≡ Some t → EntriesSaid (pools_for es) t
entries_said es t e =
    let parts = tables_parts es t e in
    subst (EntriesSaid (pools_for es)) (sym parts.2) (with_said (pools_for es) parts.0 (pools_hold (named_by (classes_added es))))

-- so what all that is named passes, all entries do
pub types_fit : (es : List Added) (t : Tables) → tables_of es ≡ Some t
    → IsTrue (list_all is_descriptor (types_named (named_by (classes_added es)))) → IsTrue (list_all is_descriptor (map (text_at t) t.types))
unfolding pools_of
types_fit es t e h =
    ap (list_all is_descriptor) (entries_said es t e).types ∙ tests_sorted text_order is_descriptor (types_named (named_by (classes_added es))) h

pub protos_fit_all : (es : List Added) (t : Tables) → tables_of es ≡ Some t
    → IsTrue (list_all proto_fits (protos_named (named_by (classes_added es)))) → IsTrue (list_all proto_fits (map (prototype_of t) t.protos))
unfolding pools_of
protos_fit_all es t e h =
    ap (list_all proto_fits) (entries_said es t e).protos ∙ tests_sorted proto_order proto_fits (protos_named (named_by (classes_added es))) h

pub fields_fit : (es : List Added) (t : Tables) → tables_of es ≡ Some t
    → IsTrue (list_all field_fits (fields_named (named_by (classes_added es)))) → IsTrue (list_all field_fits (map (field_of t) t.fields))
unfolding pools_of
fields_fit es t e h =
    ap (list_all field_fits) (entries_said es t e).fields ∙ tests_sorted field_order field_fits (fields_named (named_by (classes_added es))) h

pub methods_fit : (es : List Added) (t : Tables) → tables_of es ≡ Some t
    → IsTrue (list_all method_fits (methods_named (named_by (classes_added es)))) → IsTrue (list_all method_fits (map (method_of t) t.methods))
unfolding pools_of
methods_fit es t e h =
    ap (list_all method_fits) (entries_said es t e).methods ∙ tests_sorted method_order method_fits (methods_named (named_by (classes_added es))) h
