-- That the tables of classes are closed and in order, up to their classes.
use Rattle.std.proofs.Common.{◌≡◌, ℕ, ◌<◌, List, [], ◌∷◌, map, length, get_or, Some, Ordering, Less, nat_cmp, sym, ap, ◌∙◌, subst}
use Rattle.std.specs.List.{All}
use Rattle.std.specs.List.Sorted.{IsStrictlySortedBy}
use Rattle.std.proofs.lemmas.List.{length-map}
use Rattle.std.proofs.lemmas.List.Elements.{All-head, All-tail, All-weaker, All-map}
use Rattle.std.proofs.lemmas.Map.Keys.{sorted_tail}
use Rattle.std.proofs.lemmas.Map.Views.{All-after_first}
use Rattle.pi_dextables.specs.declared.tables.Class.{Class}
use Rattle.pi_dextables.specs.declared.tables.Tables.{Tables}
use Rattle.pi_contents.specs.Contents.{FieldName, Prototype, MethodName}
use Rattle.pi_contents.specs.Naming.{named_by, short_form}
use Rattle.pi_tablesaid.specs.Closed.{IsString, IsType, ProtoCloses, FieldCloses, MethodCloses, proto_cmp, member_cmp}
use Rattle.pi_classtables.specs.Sorted.{text_order}
use Rattle.pi_classtables.specs.Numbers.{Pools, string_no, type_no, proto_no, proto_order, field_order, method_order, proto_entry, field_entry, method_entry}
use Rattle.pi_classtables.specs.Whole.{Added, classes_added, tables_with, pools_for, tables_of}
use Rattle.pi_classtables.proofs.Sortings.{rising_cons, rising_none}
use Rattle.pi_classlaws.proofs.Known.{HoldsType, HoldsProto, HoldsField, HoldsMethod, text_again, proto_entry_again}
use Rattle.pi_classtables.proofs.PoolsHold.{PoolsRise, pools_rise, PoolsHold, pools_hold}
use Rattle.pi_classtables.proofs.Compared.{texts_compare}
use Rattle.pi_classlaws.proofs.EntriesCompared.{proto_entries_compare, field_entries_compare, method_entries_compare}
use Rattle.pi_classtables.proofs.Parts.{tables_parts}

-- what is closed and in order of tables but their classes
pub record EntriesClosed (t : Tables) : Type 0 where
  pub types : All (IsString t) t.types
  pub types_rise : IsStrictlySortedBy nat_cmp t.types
  pub protos : All (ProtoCloses t) t.protos
  pub protos_rise : IsStrictlySortedBy proto_cmp t.protos
  pub fields : All (FieldCloses t) t.fields
  pub fields_rise : IsStrictlySortedBy member_cmp t.fields
  pub methods : All (MethodCloses t) t.methods
  pub methods_rise : IsStrictlySortedBy member_cmp t.methods

-- what is made of things that rise rises, where it compares as they do
module _ {A B : Type 0} (P : A → Type 0) (cmp : A → A → Ordering) (by : B → B → Ordering) (enter : A → B)
    (compare : (x y : A) → P x → P y → by (enter x) (enter y) ≡ cmp x y) where
  pub rising_map : (xs : List A) → All P xs → IsStrictlySortedBy cmp xs → IsStrictlySortedBy by (map enter xs)
  rising_map [] all rise = rising_none by
  rising_map (x ∷ xs) all rise =
      let rest = All-tail P x xs all in
      let above = All-after_first cmp x xs rise in
      rising_cons by (enter x) (map enter xs)
      (All-map (λ z. by (enter x) z ≡ Less) enter xs (λ k d lt. compare x (get_or xs k d) (All-head P x xs all) (rest k d lt) ∙ above k d lt))
      (rising_map xs rest (sorted_tail cmp x xs rise))

module _ (p : Pools) (rise : PoolsRise p) (hold : PoolsHold p) (classes : List Class) where
  abbrev tables : Tables
  tables = tables_with p classes

  -- the numbers of things that are held are those of entries
  is_type : (u : List ℕ) → HoldsType p u → IsType tables (type_no p u)
  is_type u h = subst (λ (n : ℕ). type_no p u < n) (sym (length-map p.types (string_no p))) h.number

  is_proto : (q : Prototype) → HoldsProto p q → proto_no p q < length tables.protos
  is_proto q h = subst (λ (n : ℕ). proto_no p q < n) (sym (length-map p.protos (proto_entry p))) h.number

  proto_closes : (q : Prototype) → HoldsProto p q → ProtoCloses tables (proto_entry p q)
  proto_closes q h = record {
    short = h.short.number;
    ret = is_type q.ret h.ret;
    params = All-map (IsType tables) (type_no p) q.params (All-weaker (HoldsType p) (λ u. IsType tables (type_no p u)) is_type q.params h.params);
    spelled = text_again p classes (short_form q) h.short ∙ ap short_form (sym (proto_entry_again p classes q h));
  }

  field_closes : (f : FieldName) → HoldsField p f → FieldCloses tables (field_entry p f)
  field_closes f h = record { class = is_type f.class h.class; kind = is_type f.ty h.ty; name = h.name.number }

  method_closes : (m : MethodName) → HoldsMethod p m → MethodCloses tables (method_entry p m)
  method_closes m h = record { class = is_type m.class h.class; kind = is_proto m.proto h.proto; name = h.name.number }

  pub entries_with_closed : EntriesClosed tables
  entries_with_closed = record {
    types = All-map (IsString tables) (string_no p) p.types (All-weaker (HoldsType p) (λ u. IsString tables (string_no p u)) (λ u h. h.text.number) p.types hold.types);
    types_rise = rising_map (HoldsType p) text_order nat_cmp (string_no p) (λ u v g h. texts_compare p rise u v g.text h.text) p.types hold.types rise.types;
    protos = All-map (ProtoCloses tables) (proto_entry p) p.protos (All-weaker (HoldsProto p) (λ q. ProtoCloses tables (proto_entry p q)) proto_closes p.protos hold.protos);
    protos_rise = rising_map (HoldsProto p) proto_order proto_cmp (proto_entry p) (proto_entries_compare p rise) p.protos hold.protos rise.protos;
    fields = All-map (FieldCloses tables) (field_entry p) p.fields (All-weaker (HoldsField p) (λ f. FieldCloses tables (field_entry p f)) field_closes p.fields hold.fields);
    fields_rise = rising_map (HoldsField p) field_order member_cmp (field_entry p) (field_entries_compare p rise) p.fields hold.fields rise.fields;
    methods = All-map (MethodCloses tables) (method_entry p) p.methods (All-weaker (HoldsMethod p) (λ m. MethodCloses tables (method_entry p m)) method_closes p.methods hold.methods);
    methods_rise = rising_map (HoldsMethod p) method_order member_cmp (method_entry p) (method_entries_compare p rise) p.methods hold.methods rise.methods;
  }

pub entries_closed : (es : List Added) (t : Tables) → tables_of es ≡ Some t → EntriesClosed t
entries_closed es t e =
    let parts = tables_parts es t e in
    let named = named_by (classes_added es) in
    subst EntriesClosed (sym parts.2) (entries_with_closed (pools_for es) (pools_rise named) (pools_hold named) parts.0)
