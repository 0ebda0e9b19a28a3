-- That bytes can spell the tables of classes: strings rise, and numbers fit the places that they have.
use Rattle.std.proofs.Common.{◌≡◌, ℕ, ◌^◌, ◌<◌, ◌≤◌, true, List, [], ◌∷◌, length, Some, sym, subst, arith}
use Rattle.std.specs.Prelude.{nat_le}
use Rattle.std.specs.List.{All}
use Rattle.std.proofs.lemmas.Bool.{and_parts, leb-true}
use Rattle.std.proofs.lemmas.List.{length-map}
use Rattle.std.proofs.lemmas.List.Elements.{All-nil, All-cons, All-head, All-tail, All-map, All-weaker}
use Rattle.pi_dextables.specs.declared.tables.Class.{Class}
use Rattle.pi_dextables.specs.declared.tables.Tables.{Tables}
use Rattle.pi_dextables.specs.Writable.{IsHalf, IsWord, ProtoFits, MemberFits, ClassFits, IsWritable}
use Rattle.pi_contents.specs.Contents.{FieldName, Prototype, MethodName}
use Rattle.pi_contents.specs.Naming.{named_by}
use Rattle.pi_classtables.specs.Numbers.{Pools, string_no, type_no, proto_entry, field_entry, method_entry}
use Rattle.pi_classtables.specs.Sized.{IsSized}
use Rattle.pi_classtables.specs.Spelled.{IsSpelled}
use Rattle.pi_classtables.specs.Whole.{Added, class_row, for_each, tables_with, is_counted, classes_added, pools_for, tables_of}
use Rattle.pi_classtables.proofs.PoolsHold.{PoolsRise, pools_rise, PoolsHold, pools_hold}
use Rattle.pi_classtables.proofs.Parts.{tables_parts}
use Rattle.pi_classlaws.proofs.Known.{HoldsType, HoldsProto, HoldsField, HoldsMethod}
use Rattle.pi_classlaws.proofs.NamingsFiled.{ClassHeld, all_classes_held}
use Rattle.pi_classlaws.proofs.ClassRows.{each_given, all_beside}
use Rattle.pi_classlaws.proofs.RowsRise.{ids_rise}
use Rattle.pi_classlaws.proofs.WritableClasses.{class_fits}

-- what is known of a class that is added
record AddedIs (p : Pools) (e : Added) : Type 0 where
  spelled : IsSpelled e
  sized : IsSized e.class
  held : ClassHeld p e.class

-- what holds of the classes holds of each class that is added
all_sized : (es : List Added) → All IsSized (classes_added es) → All (λ (e : Added). IsSized e.class) es
all_sized [] all = All-nil (λ (e : Added). IsSized e.class)
all_sized (e ∷ es) all =
    All-cons (λ (f : Added). IsSized f.class) e es (All-head IsSized e.class (classes_added es) all) (all_sized es (All-tail IsSized e.class (classes_added es) all))

all_are : (p : Pools) (es : List Added) → All IsSpelled es → All (λ (e : Added). IsSized e.class) es → All (λ (e : Added). ClassHeld p e.class) es
    → All (AddedIs p) es
all_are p es spelled sized held k d lt = record { spelled = spelled k d lt; sized = sized k d lt; held = held k d lt }

-- few entries are counted by 16 bits, and by 32
record AreFew (p : Pools) : Type 0 where
  types : length p.types ≤ 65535
  protos : length p.protos ≤ 65535
  strings : length p.strings < 2 ^ 32
  fields : length p.fields < 2 ^ 32
  methods : length p.methods < 2 ^ 32

module _ (p : Pools) (rise : PoolsRise p) (hold : PoolsHold p) (few : AreFew p) where
  -- so the numbers in each entry fit
  type_fits : (t : List ℕ) → HoldsType p t → IsHalf (type_no p t)
  type_fits t held =
      let number = held.number in
      let most = few.types in
      omega (arith, number, most)

  proto_fits : (q : Prototype) → HoldsProto p q → ProtoFits (proto_entry p q)
  proto_fits q held = record {
    short = (let number = held.short.number in let most = few.strings in omega (arith, number, most));
    ret = type_fits q.ret held.ret;
    params = All-map IsHalf (type_no p) q.params (All-weaker (HoldsType p) (λ t. IsHalf (type_no p t)) type_fits q.params held.params);
  }

  field_fits : (f : FieldName) → HoldsField p f → MemberFits (field_entry p f)
  field_fits f held = record {
    class = type_fits f.class held.class;
    kind = type_fits f.ty held.ty;
    name = (let number = held.name.number in let most = few.strings in omega (arith, number, most));
  }

  method_fits : (m : MethodName) → HoldsMethod p m → MemberFits (method_entry p m)
  method_fits m held = record {
    class = type_fits m.class held.class;
    kind = (let number = held.proto.number in let most = few.protos in omega (arith, number, most));
    name = (let number = held.name.number in let most = few.strings in omega (arith, number, most));
  }

  string_fits : (t : List ℕ) → HoldsType p t → IsWord (string_no p t)
  string_fits t held =
      let number = held.text.number in
      let most = few.strings in
      omega (arith, number, most)

  classes_fit : (es : List Added) (classes : List Class) → All (AddedIs p) es → for_each (class_row p) es ≡ Some classes → All ClassFits classes
  classes_fit es classes all made =
      all_beside (λ e c. class_row p e ≡ Some c) (AddedIs p) ClassFits
      (λ e c row is. class_fits p few.strings few.types few.fields few.methods e c is.spelled is.sized is.held (ids_rise p rise e c is.held row) row)
      es classes (each_given (class_row p) es classes made) all

  with_writable : (es : List Added) (classes : List Class) → All (AddedIs p) es → for_each (class_row p) es ≡ Some classes
      → All (λ (s : List ℕ). All IsHalf s) p.strings → IsWritable (tables_with p classes)
  with_writable es classes all made halves = record {
    strings = halves;
    strings_rise = rise.strings;
    few_types = (let long = length-map p.types (string_no p) in let most = few.types in omega (arith, long, most));
    few_protos = (let long = length-map p.protos (proto_entry p) in let most = few.protos in omega (arith, long, most));
    types = All-map IsWord (string_no p) p.types (All-weaker (HoldsType p) (λ t. IsWord (string_no p t)) string_fits p.types hold.types);
    protos = All-map ProtoFits (proto_entry p) p.protos (All-weaker (HoldsProto p) (λ q. ProtoFits (proto_entry p q)) proto_fits p.protos hold.protos);
    fields = All-map MemberFits (field_entry p) p.fields (All-weaker (HoldsField p) (λ f. MemberFits (field_entry p f)) field_fits p.fields hold.fields);
    methods = All-map MemberFits (method_entry p) p.methods (All-weaker (HoldsMethod p) (λ m. MemberFits (method_entry p m)) method_fits p.methods hold.methods);
    classes = classes_fit es classes all made;
  }

-- what is asked of the lengths of tables is asked of pools
are_few : (p : Pools) (classes : List Class) → is_counted p ≡ true → length (tables_with p classes).strings < 2 ^ 32
    → length (tables_with p classes).fields < 2 ^ 32 → length (tables_with p classes).methods < 2 ^ 32 → AreFew p
are_few p classes counted strings fields methods =
    let both = and_parts (nat_le (length p.types) 65535) (nat_le (length p.protos) 65535) counted in
    record {
      types = leb-true (length p.types) 65535 both.0;
      protos = leb-true (length p.protos) 65535 both.1;
      strings = strings;
      fields = (let long = length-map p.fields (field_entry p) in omega (arith, long, fields));
      methods = (let long = length-map p.methods (method_entry p) in omega (arith, long, methods));
    }

pub tables_writable : (es : List Added) (t : Tables) → All IsSpelled es → All IsSized (classes_added es)
    → tables_of es ≡ Some t → All (λ (s : List ℕ). All IsHalf s) t.strings → length t.strings < 2 ^ 32
    → length t.fields < 2 ^ 32 → length t.methods < 2 ^ 32 → IsWritable t
tables_writable es t spelled sized e =
    let p = pools_for es in
    let named = named_by (classes_added es) in
    let parts = tables_parts es t e in
    let all = all_are p es spelled (all_sized es sized) (all_classes_held es) in
    subst
    (λ (s : Tables). All (λ (u : List ℕ). All IsHalf u) s.strings → length s.strings < 2 ^ 32 → length s.fields < 2 ^ 32 → length s.methods < 2 ^ 32
    → IsWritable s)
    (sym parts.2)
    (λ halves strings fields methods. with_writable p (pools_rise named) (pools_hold named) (are_few p parts.0 parts.3 strings fields methods)
    es parts.0 all parts.1 halves)
