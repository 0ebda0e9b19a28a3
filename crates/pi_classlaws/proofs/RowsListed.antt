-- That each member of a class is listed in its row where it belongs, in the order of the tables.
use Rattle.std.proofs.Common.{◌≡◌, ℕ, Bool, true, false, List, [], ◌∷◌, map, Option, Some, None, IfSome, option_map, refl, sym, ap, ◌∙◌, subst, arith}
use Rattle.std.specs.List.{All, AllZip}
use Rattle.std.proofs.lemmas.List.{length-map}
use Rattle.std.proofs.lemmas.List.Elements.{All-nil, All-cons, All-head, All-tail, All-map, All-weaker}
use Rattle.pi_model.specs.Flags.{is_static}
use Rattle.pi_format.proofs.Every.{all_both}
use Rattle.pi_dextables.specs.declared.tables.Class.{Class}
use Rattle.pi_dextables.specs.declared.tables.FieldRow.{FieldRow}
use Rattle.pi_dextables.specs.declared.tables.Member.{Member}
use Rattle.pi_dextables.specs.declared.tables.MethodRow.{MethodRow}
use Rattle.pi_dextables.specs.declared.tables.Tables.{Tables}
use Rattle.pi_contents.specs.Contents.{FieldContent, MethodName}
use Rattle.pi_contents.specs.Naming.{own_field, own_method}
use Rattle.pi_contents.specs.Asked.{is_direct}
use Rattle.pi_tablesaid.specs.Entries.{no_member, member_at, method_at}
use Rattle.pi_tablesaid.specs.Content.{method_said}
use Rattle.pi_tablesaid.specs.Closed.{IsType, BodyCloses, FieldListed, MethodListed, ClassCloses}
use Rattle.pi_classtables.specs.Numbers.{Pools, string_no, type_no, field_entry, method_entry}
use Rattle.pi_classtables.specs.Whole.{Added, Method, statics_of, instances_of, directs_of, virtuals_of, field_row, class_row, for_each, tables_with, pools_for, tables_of}
use Rattle.pi_classtables.proofs.Orders.{field_exact, method_exact}
use Rattle.pi_classlaws.proofs.Known.{HoldsType, HoldsField, HoldsMethod, entry_there, method_again}
use Rattle.pi_classtables.proofs.Parts.{tables_parts}
use Rattle.pi_classlaws.proofs.MembersHold.{statics_static, instances_not_static, directs_direct, virtuals_not_direct}
use Rattle.pi_classlaws.proofs.NamingsFiled.{FieldHeld, MethodHeld, ClassHeld, all_classes_held, statics_held, instances_held, directs_held, virtuals_held}
use Rattle.pi_classlaws.proofs.ClassRows.{MethodRowIs, ClassRowIs, class_row_is, method_rows_beside, each_given, all_beside}

-- the code of a row is closed, where there is one
abbrev pub CodeCloses : Tables → MethodRow → Type 0
CodeCloses t r = IfSome r.code (BodyCloses t)

module _ (p : Pools) (classes : List Class) where
  pub field_listed : (class : List ℕ) (kind : Bool) (f : FieldContent) → HoldsField p (own_field class f) → is_static f.flags ≡ kind
      → FieldListed (tables_with p classes) (type_no p class) kind (field_row p class f)
  field_listed class kind f held e = record {
    id = omega (arith, held.number, length-map p.fields (field_entry p));
    class = ap (λ (m : Member). m.class) (entry_there field_exact (field_entry p) (own_field class f) p.fields no_member held.number);
    static = e;
  }

  -- a row says a method that is direct where the method is
  said_direct : (class : List ℕ) (m : Method) (r : MethodRow) → MethodRowIs p class m r → HoldsMethod p (own_method class m.content)
      → is_direct (method_said (tables_with p classes) r) ≡ is_direct m.content
  said_direct class m r is held =
      let name : (method_at (tables_with p classes) r.id).name ≡ m.content.name =
      ap (λ (k : ℕ). (method_at (tables_with p classes) k).name) is.id ∙ ap (λ (n : MethodName). n.name) (method_again p classes (own_method class m.content) held) in
      rw (is.flags, name) refl

  pub method_listed : (class : List ℕ) (kind : Bool) (m : Method) (r : MethodRow) → MethodRowIs p class m r → HoldsMethod p (own_method class m.content)
      → is_direct m.content ≡ kind → CodeCloses (tables_with p classes) r → MethodListed (tables_with p classes) (type_no p class) kind r
  method_listed class kind m r is held e code = record {
    id = omega (arith, is.id, held.number, length-map p.methods (method_entry p));
    class = ap (λ (k : ℕ). (member_at (tables_with p classes).methods k).class) is.id
        ∙ ap (λ (m : Member). m.class) (entry_there method_exact (method_entry p) (own_method class m.content) p.methods no_member held.number);
    direct = said_direct class m r is held ∙ e;
    code = code;
  }

  -- so all of a list
  pub fields_listed : (class : List ℕ) (kind : Bool) (fs : List FieldContent) → All (FieldHeld p class) fs → All (λ (f : FieldContent). is_static f.flags ≡ kind) fs
      → All (FieldListed (tables_with p classes) (type_no p class) kind) (map (field_row p class) fs)
  fields_listed class kind fs held kinds =
      let listed : FieldRow → Type 0 = FieldListed (tables_with p classes) (type_no p class) kind in
      All-map listed (field_row p class) fs
      (all_both (FieldHeld p class) (λ (f : FieldContent). is_static f.flags ≡ kind) (λ (f : FieldContent). listed (field_row p class f)) fs
      (λ f h e. field_listed class kind f h.field e) held kinds)

  pub methods_listed : (class : List ℕ) (kind : Bool) (ms : List Method) (rs : List MethodRow) → AllZip (MethodRowIs p class) ms rs
      → All (λ (m : Method). MethodHeld p class m.content) ms → All (λ (m : Method). is_direct m.content ≡ kind) ms
      → All (CodeCloses (tables_with p classes)) rs → All (MethodListed (tables_with p classes) (type_no p class) kind) rs
  methods_listed class kind [] [] beside held kinds code = All-nil (MethodListed (tables_with p classes) (type_no p class) kind)
  methods_listed class kind [] (r ∷ rs) beside held kinds code = absurd beside
  methods_listed class kind (m ∷ ms) [] beside held kinds code = absurd beside
  methods_listed class kind (m ∷ ms) (r ∷ rs) beside held kinds code =
      All-cons (MethodListed (tables_with p classes) (type_no p class) kind) r rs
      (method_listed class kind m r beside.0 (All-head (λ (n : Method). MethodHeld p class n.content) m ms held).method
      (All-head (λ (n : Method). is_direct n.content ≡ kind) m ms kinds) (All-head (CodeCloses (tables_with p classes)) r rs code))
      (methods_listed class kind ms rs beside.1 (All-tail (λ (n : Method). MethodHeld p class n.content) m ms held)
      (All-tail (λ (n : Method). is_direct n.content ≡ kind) m ms kinds) (All-tail (CodeCloses (tables_with p classes)) r rs code))

  -- and the types of the class are there
  type_there : (t : List ℕ) → HoldsType p t → IsType (tables_with p classes) (type_no p t)
  type_there t held = omega (arith, held.number, length-map p.types (string_no p))

  parent_there : (parent : Option (List ℕ)) → IfSome parent (HoldsType p) → IfSome (option_map (type_no p) parent) (IsType (tables_with p classes))
  parent_there None held = tt
  parent_there (Some t) held = type_there t held

  faces_there : (faces : List (List ℕ)) → All (HoldsType p) faces → All (IsType (tables_with p classes)) (map (type_no p) faces)
  faces_there faces held =
      All-map (IsType (tables_with p classes)) (type_no p) faces (All-weaker (HoldsType p) (λ t. IsType (tables_with p classes) (type_no p t)) type_there faces held)

  -- so a class is closed whose codes are
  row_closes : (e : Added) (c : Class) → ClassHeld p e.class → ClassRowIs p e c → All (CodeCloses (tables_with p classes)) c.directs
      → All (CodeCloses (tables_with p classes)) c.virtuals → ClassCloses (tables_with p classes) c
  row_closes e c held is directs virtuals =
      let t : Tables = tables_with p classes in
      let class : List ℕ = e.class.name in
      let owner : c.class ≡ type_no p class = is.class in
      record {
        class = subst (IsType t) (sym is.class) (type_there class held.class);
        parent = subst (λ (o : Option ℕ). IfSome o (IsType t)) (sym is.parent) (parent_there e.class.parent held.parent);
        faces = subst (All (IsType t)) (sym is.faces) (faces_there e.class.faces held.faces);
        statics = rw (owner, is.statics) (fields_listed class true (statics_of e.class) (statics_held p e held) (statics_static e.class));
        instances = rw (owner, is.instances) (fields_listed class false (instances_of e.class) (instances_held p e held) (instances_not_static e.class));
        directs = rw owner (methods_listed class true (directs_of e) c.directs (method_rows_beside p class (directs_of e) c.directs is.directs)
            (directs_held p e held) (directs_direct e) directs);
        virtuals = rw owner (methods_listed class false (virtuals_of e) c.virtuals (method_rows_beside p class (virtuals_of e) c.virtuals is.virtuals)
            (virtuals_held p e held) (virtuals_not_direct e) virtuals);
      }

  pub class_closes : (e : Added) (c : Class) → ClassHeld p e.class → class_row p e ≡ Some c → All (CodeCloses (tables_with p classes)) c.directs
      → All (CodeCloses (tables_with p classes)) c.virtuals → ClassCloses (tables_with p classes) c
  class_closes e c held is directs virtuals = row_closes e c held (class_row_is p e c is) directs virtuals

-- and so is each of all classes
pub classes_close : (es : List Added) (classes : List Class) → for_each (class_row (pools_for es)) es ≡ Some classes
    → All (λ (c : Class). All (CodeCloses (tables_with (pools_for es) classes)) c.directs) classes
    → All (λ (c : Class). All (CodeCloses (tables_with (pools_for es) classes)) c.virtuals) classes
    → All (ClassCloses (tables_with (pools_for es) classes)) classes
classes_close es classes made directs virtuals =
    let p : Pools = pools_for es in
    let t : Tables = tables_with p classes in
    let closes : All (λ (c : Class). All (CodeCloses t) c.directs → All (CodeCloses t) c.virtuals → ClassCloses t c) classes =
    all_beside (λ e c. class_row p e ≡ Some c) (λ (e : Added). ClassHeld p e.class)
    (λ (c : Class). All (CodeCloses t) c.directs → All (CodeCloses t) c.virtuals → ClassCloses t c)
    (λ e c is held. class_closes p classes e c held is) es classes (each_given (class_row p) es classes made) (all_classes_held es) in
    let halfway : All (λ (c : Class). All (CodeCloses t) c.virtuals → ClassCloses t c) classes =
    all_both (λ (c : Class). All (CodeCloses t) c.directs → All (CodeCloses t) c.virtuals → ClassCloses t c) (λ (c : Class). All (CodeCloses t) c.directs)
    (λ (c : Class). All (CodeCloses t) c.virtuals → ClassCloses t c) classes (λ c f x. f x) closes directs in
    all_both (λ (c : Class). All (CodeCloses t) c.virtuals → ClassCloses t c) (λ (c : Class). All (CodeCloses t) c.virtuals) (ClassCloses t) classes (λ c f x. f x) halfway virtuals

pub table_classes_close : (es : List Added) (t : Tables) → tables_of es ≡ Some t → All (λ (c : Class). All (CodeCloses t) c.directs) t.classes
    → All (λ (c : Class). All (CodeCloses t) c.virtuals) t.classes → All (ClassCloses t) t.classes
table_classes_close es t e =
    let parts = tables_parts es t e in
    subst (λ (s : Tables). All (λ (c : Class). All (CodeCloses s) c.directs) s.classes → All (λ (c : Class). All (CodeCloses s) c.virtuals) s.classes → All (ClassCloses s) s.classes)
    (sym parts.2) (classes_close es parts.0 parts.1)
