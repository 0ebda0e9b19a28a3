-- That the pools of classes hold what these name: the types of a class, and of each of its members the name, what it is set
-- to, and what its code names.
use Rattle.std.proofs.Common.{ℕ, List, [], ◌∷◌, ◌++◌, map, Option, Some, None, IfSome, subst}
use Rattle.std.specs.List.{All, flat_map}
use Rattle.std.proofs.lemmas.List.Elements.{All-nil, All-cons, All-head, All-tail, All-weaker}
use Rattle.std.proofs.lemmas.List.Folds.{flat_map-map}
use Rattle.pi_format.proofs.Every.{all_left, all_right}
use Rattle.pi_contents.specs.Contents.{Naming, OfType, OfMethod, LineContent, CodeContent, MethodContent, ClassContent}
use Rattle.pi_contents.specs.Naming.{own_method, named_by_type, named_by_field, named_by_line, named_by_catch, named_by_code, named_by_method, named_by_class, named_by}
use Rattle.pi_classtables.specs.Numbers.{Pools}
use Rattle.pi_classtables.specs.Whole.{Added, Method, statics_of, instances_of, directs_of, virtuals_of, classes_added, pools_for}
use Rattle.pi_classtables.proofs.Joined.{all_in_pieces}
use Rattle.pi_classlaws.proofs.Known.{HoldsType, HoldsMethod, HoldsNaming, all_held}
pub use Rattle.pi_classlaws.proofs.HeldMembers.{InitHeld as HoldsInit, FieldHeld}
use Rattle.pi_classlaws.proofs.HeldMembers.{CatchHeld, type_held, catches_held, fields_held}
use Rattle.pi_classlaws.proofs.MembersHold.{all_statics, all_instances, all_added, all_directs, all_virtuals}

-- what the instructions of a code name, and the types that it catches
pub record CodeHeld (p : Pools) (c : CodeContent) : Type 0 where
  pub lines : All (λ (l : LineContent). HoldsNaming p l.naming) c.lines
  pub catches : All (CatchHeld p) c.catches

pub record MethodHeld (p : Pools) (class : List ℕ) (m : MethodContent) : Type 0 where
  pub method : HoldsMethod p (own_method class m)
  pub code : IfSome m.code (CodeHeld p)

-- and what a class names
pub record ClassHeld (p : Pools) (c : ClassContent) : Type 0 where
  pub class : HoldsType p c.name
  pub parent : IfSome c.parent (HoldsType p)
  pub faces : All (HoldsType p) c.faces
  pub fields : All (FieldHeld p c.name) c.fields
  pub methods : All (MethodHeld p c.name) c.methods

module _ (p : Pools) where
  types_held : (ts : List (List ℕ)) → All (HoldsNaming p) (map OfType ts) → All (HoldsType p) ts
  types_held [] all = All-nil (HoldsType p)
  types_held (t ∷ ts) all =
      All-cons (HoldsType p) t ts (All-head (HoldsNaming p) (OfType t) (map OfType ts) all) (types_held ts (All-tail (HoldsNaming p) (OfType t) (map OfType ts) all))

  line_held : (l : LineContent) → All (HoldsNaming p) (named_by_line l) → HoldsNaming p l.naming
  line_held l all = All-head (HoldsNaming p) l.naming [] all

  code_held : (code : Option CodeContent) → All (HoldsNaming p) (named_by_code code) → IfSome code (CodeHeld p)
  code_held None all = tt
  code_held (Some c) all =
      let lines = all_left (HoldsNaming p) (flat_map named_by_line c.lines) (flat_map named_by_catch c.catches) all in
      let catches = all_right (HoldsNaming p) (flat_map named_by_line c.lines) (flat_map named_by_catch c.catches) all in
      record {
        lines = All-weaker (λ l. All (HoldsNaming p) (named_by_line l)) (λ l. HoldsNaming p l.naming) line_held c.lines
            (all_in_pieces (HoldsNaming p) named_by_line c.lines lines);
        catches = catches_held p c.catches catches;
      }

  method_held : (class : List ℕ) (m : MethodContent) → All (HoldsNaming p) (named_by_method class m) → MethodHeld p class m
  method_held class m all = record {
    method = All-head (HoldsNaming p) (OfMethod (own_method class m)) (named_by_code m.code) all;
    code = code_held m.code (All-tail (HoldsNaming p) (OfMethod (own_method class m)) (named_by_code m.code) all);
  }

  pub class_held : (c : ClassContent) → All (HoldsNaming p) (named_by_class c) → ClassHeld p c
  class_held c all =
      let fields : List Naming = flat_map (named_by_field c.name) c.fields in
      let methods : List Naming = flat_map (named_by_method c.name) c.methods in
      let behind = All-tail (HoldsNaming p) (OfType c.name) (named_by_type c.parent ++ (map OfType c.faces ++ (fields ++ methods))) all in
      let faces = all_right (HoldsNaming p) (named_by_type c.parent) (map OfType c.faces ++ (fields ++ methods)) behind in
      let members = all_right (HoldsNaming p) (map OfType c.faces) (fields ++ methods) faces in
      record {
        class = All-head (HoldsNaming p) (OfType c.name) (named_by_type c.parent ++ (map OfType c.faces ++ (fields ++ methods))) all;
        parent = type_held p c.parent (all_left (HoldsNaming p) (named_by_type c.parent) (map OfType c.faces ++ (fields ++ methods)) behind);
        faces = types_held c.faces (all_left (HoldsNaming p) (map OfType c.faces) (fields ++ methods) faces);
        fields = fields_held p c.name c.fields (all_left (HoldsNaming p) fields methods members);
        methods = All-weaker (λ m. All (HoldsNaming p) (named_by_method c.name m)) (MethodHeld p c.name) (method_held c.name) c.methods
            (all_in_pieces (HoldsNaming p) (named_by_method c.name) c.methods (all_right (HoldsNaming p) fields methods members));
      }

  -- so what its members name, in the order of a file
  module _ (e : Added) (held : ClassHeld p e.class) where
    pub statics_held : All (FieldHeld p e.class.name) (statics_of e.class)
    statics_held = all_statics (FieldHeld p e.class.name) e.class held.fields

    pub instances_held : All (FieldHeld p e.class.name) (instances_of e.class)
    instances_held = all_instances (FieldHeld p e.class.name) e.class held.fields

    pub directs_held : All (λ (m : Method). MethodHeld p e.class.name m.content) (directs_of e)
    directs_held = all_directs (λ (m : Method). MethodHeld p e.class.name m.content) e (all_added (MethodHeld p e.class.name) e held.methods)

    pub virtuals_held : All (λ (m : Method). MethodHeld p e.class.name m.content) (virtuals_of e)
    virtuals_held = all_virtuals (λ (m : Method). MethodHeld p e.class.name m.content) e (all_added (MethodHeld p e.class.name) e held.methods)

-- the pools of classes hold what each of them names
pub all_namings_held : (es : List Added) → All (λ (e : Added). All (HoldsNaming (pools_for es)) (named_by_class e.class)) es
all_namings_held es =
    let p : Pools = pools_for es in
    let all : All (HoldsNaming p) (named_by (classes_added es)) = all_held (named_by (classes_added es)) in
    all_in_pieces (HoldsNaming p) (λ (e : Added). named_by_class e.class) es
    (subst (All (HoldsNaming p)) (flat_map-map named_by_class (λ (e : Added). e.class) es) all)

pub all_classes_held : (es : List Added) → All (λ (e : Added). ClassHeld (pools_for es) e.class) es
all_classes_held es =
    All-weaker (λ (e : Added). All (HoldsNaming (pools_for es)) (named_by_class e.class)) (λ (e : Added). ClassHeld (pools_for es) e.class)
    (λ e all. class_held (pools_for es) e.class all) es (all_namings_held es)
