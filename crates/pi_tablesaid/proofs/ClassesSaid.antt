-- The classes that a file says, by texts, are those of the tables that it says.
use Rattle.std.proofs.Common.{◌≡◌, ℕ, suc, ◌+◌, ◌^◌, ◌<◌, List, [], ◌∷◌, ◌++◌, length, map, Option, Some, None, Bool, true, false, refl, sym, ap, ◌∙◌, subst, add-zero, arith}
use Rattle.std.specs.Prelude.{◌==◌, All, IfSome, slice_get, is_some, option_map}
use Rattle.std.proofs.lemmas.Bool.{false≢true}
use Rattle.std.proofs.lemmas.Bool.Decides.{nat_tests}
use Rattle.std.proofs.lemmas.List.{map-append}
use Rattle.std.proofs.lemmas.Option.{slice_get_within}
use Rattle.pi_model.specs.declared.numbers.NameNo.{NameNo}
use Rattle.pi_model.specs.declared.describe.Init.TheVariants.{Zero}
use Rattle.pi_model.specs.Program.{Program}
use Rattle.pi_bytes.specs.Numbers.{no_index}
use Rattle.pi_format.specs.Tables.{count_at, class_defs}
use Rattle.pi_format.specs.Rules.Lowest.{tabulation}
use Rattle.pi_format.specs.Rules.Rows.{MemberRow}
use Rattle.pi_format.specs.Rules.Classes.{class_entry}
use Rattle.pi_format.specs.Rules.ClassData.{ClassRows, class_rows, rows_of, rows_in, methods_in, broken_class_data, owner}
use Rattle.pi_format.specs.Rules.Values.{class_values, broken_values}
use Rattle.pi_format.specs.Rules.CodeItems.{broken_code}
use Rattle.pi_format.specs.Says.{named_file, with_said}
use Rattle.pi_format.specs.Says.Names.{Named, type_name, type_names}
use Rattle.pi_format.specs.Says.Codes.{code_of}
use Rattle.pi_format.specs.Says.Classes.{classes_said, class_desc, fields_said, static_fields, field_desc, method_desc, parent_name}
use Rattle.pi_format.proofs.Every.{all_first, all_rest, all_left, all_right, all_weaker}
use Rattle.pi_dextables.specs.declared.tables.Class.{Class}
use Rattle.pi_dextables.specs.declared.tables.FieldRow.{FieldRow}
use Rattle.pi_dextables.specs.declared.tables.MethodRow.{MethodRow}
use Rattle.pi_dextables.specs.declared.tables.Tables.{Tables}
use Rattle.pi_dextables.specs.Image.{parent_word}
use Rattle.pi_dextables.specs.Items.{read_value}
use Rattle.pi_dextables.specs.Rows.{field_row}
use Rattle.pi_dextables.specs.Said.{held, rows_hold, values_fit, MethodSaid, MethodsSaid, ClassSaid, IsSaid}
use Rattle.pi_dextables.specs.Writable.{IsHalf, MethodFits, ClassFits, IsWritable}
use Rattle.pi_dextables.proofs.Each.{all_got}
use Rattle.pi_contents.specs.Contents.{Prototype, MethodName, CodeContent, FieldContent, MethodContent, ClassContent, NoInit}
use Rattle.pi_contents.specs.Named.{text_in, content_in, code_content, field_content, method_content, class_content}
use Rattle.pi_tablesaid.specs.Entries.{type_at, method_at}
use Rattle.pi_tablesaid.specs.Content.{field_said, statics_said, method_said, class_said, content_of}
use Rattle.pi_tablesaid.specs.Closed.{IsType, FieldListed, MethodListed, ClassCloses, IsClosed}
use Rattle.pi_tablesaid.proofs.TextsSaid.{Speaks, string_text, type_text, types_text, method_text}
use Rattle.pi_tablesaid.proofs.CodesSaid.{code_of_is}
use Rattle.pi_tablesaid.proofs.ValuesSaid.{statics_are, instances_are}
use Rattle.pi_tablesaid.proofs.Unbroken.{HasLists, rows_there, values_there, lists_there}

-- what is there, where a test decides, is what is held, and the test holds
held_there : {A : Type 0} (o : Option A) (b : Bool) (x : A) → o ≡ held b x → is_some o ≡ true → (o ≡ Some x) × (b ≡ true)
held_there o true x e some = (e, refl)
held_there o false x e some = (let never : false ≡ true = rw e at some in absurd (false≢true never))

-- what numbers give, and what elements give
map_numbered : {A B X : Type 0} (h : A → B) (f : ℕ → A) (g : X → B) (xs : List X) (i : ℕ)
    → ((k : ℕ) (x : X) → slice_get xs k ≡ Some x → h (f (i + k)) ≡ g x) → map h (tabulation f i (length xs)) ≡ map g xs
map_numbered h f g [] i each = refl
map_numbered h f g (x ∷ xs) i each =
    let first : h (f i) ≡ g x = subst (λ (j : ℕ). h (f j) ≡ g x) (add-zero i) (each 0 x refl) in
    let rest = map_numbered h f g xs (i + 1) (λ k y is. (let place : i + suc k ≡ i + 1 + k = omega arith in subst (λ (j : ℕ). h (f j) ≡ g y) place (each (suc k) y is))) in
    rw (first, rest) refl

-- the parts of a method and of a class
same_method : (name : List ℕ) (proto : Prototype) (flags : ℕ) (code : Option CodeContent) (m : MethodContent)
    → name ≡ m.name → proto ≡ m.proto → flags ≡ m.flags → code ≡ m.code → record { name = name; proto = proto; flags = flags; code = code } ≡ m
same_method name proto flags code m en ep ef ec = rw (en, ep, ef, ec) refl

same_class : (name : List ℕ) (flags : ℕ) (parent : Option (List ℕ)) (faces : List (List ℕ)) (fields : List FieldContent) (methods : List MethodContent) (c : ClassContent)
    → name ≡ c.name → flags ≡ c.flags → parent ≡ c.parent → faces ≡ c.faces → fields ≡ c.fields → methods ≡ c.methods
    → record { name = name; flags = flags; parent = parent; faces = faces; fields = fields; methods = methods } ≡ c
same_class name flags parent faces fields methods c en ef ep ea es em = rw (en, ef, ep, ea, es, em) refl

module _ (t : Tables) (n : Named) (text : NameNo → List ℕ) (s : Speaks t n text) where
  -- a method
  method_is : (class : ℕ) (direct : Bool) (row : MemberRow) (m : MethodRow) → MethodSaid n.file row m → MethodFits m → MethodListed t class direct m
      → HasLists n.file row → method_content text (method_desc n row) ≡ method_said t m
  method_is class direct row m says fits listed lists =
      let there : row.id < length t.methods = subst (λ (k : ℕ). k < length t.methods) (sym says.id) listed.id in
      let named = method_text t n text s row.id there in
      same_method _ _ row.flags (option_map (code_content text) (code_of n row.code)) (method_said t m)
      (ap (λ (x : MethodName). x.name) named ∙ ap (λ (k : ℕ). (method_at t k).name) says.id)
      (ap (λ (x : MethodName). x.proto) named ∙ ap (λ (k : ℕ). (method_at t k).proto) says.id)
      says.flags
      (code_of_is t n text s row.code m.code says.code fits.code listed.code lists)

  methods_are : (class : ℕ) (direct : Bool) (rows : List MemberRow) (ms : List MethodRow) → MethodsSaid n.file rows ms → All MethodFits ms
      → All (MethodListed t class direct) ms → All (HasLists n.file) rows → map (method_content text) (map (method_desc n) rows) ≡ map (method_said t) ms
  methods_are class direct [] [] says fits listed lists = refl
  methods_are class direct [] (m ∷ ms) says fits listed lists = absurd says
  methods_are class direct (row ∷ rows) [] says fits listed lists = absurd says
  methods_are class direct (row ∷ rows) (m ∷ ms) says fits listed lists =
      let first = method_is class direct row m says.0 (all_first MethodFits m ms fits) (all_first (MethodListed t class direct) m ms listed)
      (all_first (HasLists n.file) row rows lists) in
      let rest = methods_are class direct rows ms says.1 (all_rest MethodFits m ms fits) (all_rest (MethodListed t class direct) m ms listed)
      (all_rest (HasLists n.file) row rows lists) in
      rw (first, rest) refl

  -- a superclass
  parent_is : (word : ℕ) (parent : Option ℕ) → word ≡ parent_word parent → IfSome parent IsHalf → IfSome parent (IsType t)
      → option_map text (parent_name n word) ≡ option_map (type_at t) parent
  parent_is word None is fits closes = rw is refl
  parent_is word (Some parent) is fits closes =
      let half : parent < 2 ^ 16 = fits in
      let some : (parent == no_index) ≡ false = grind (arith, nat_tests) in
      rw (is, some, type_text t n text s parent closes) refl

  -- a class whose rows and values are there
  class_is : (number i : ℕ) (c : Class) → (said : ClassSaid n.file i c) → ClassFits c → ClassCloses t c
      → class_rows n.file i ≡ Some said.rows → class_values n.file i ≡ Some (map read_value c.values)
      → values_fit n.file (map field_row c.statics) (map read_value c.values) ≡ true → All (HasLists n.file) (methods_in said.rows)
      → class_content text (class_desc n number i) ≡ class_said t c
  unfolding class_desc class_said
  class_is number i c said fits closes rows values fitting lists =
      let statics = statics_are t n text s c.statics c.values
      (all_weaker (FieldListed t c.class true) (λ (f : FieldRow). f.id < length t.fields) c.statics (λ f listed. listed.id) closes.statics) fitting in
      let instances = instances_are t n text s c.instances
      (all_weaker (FieldListed t c.class false) (λ (f : FieldRow). f.id < length t.fields) c.instances (λ f listed. listed.id) closes.instances) in
      let directs = methods_are c.class true said.rows.directs c.directs said.directs fits.directs closes.directs
      (all_left (HasLists n.file) said.rows.directs said.rows.virtuals lists) in
      let virtuals = methods_are c.class false said.rows.virtuals c.virtuals said.virtuals fits.virtuals closes.virtuals
      (all_right (HasLists n.file) said.rows.directs said.rows.virtuals lists) in
      same_class _ _ _ _ _ _ (class_said t c)
      (ap (λ (k : ℕ). text (type_name n k)) said.class ∙ type_text t n text s c.class closes.class)
      said.flags
      (parent_is (class_entry n.file i).parent c.parent said.parent fits.parent closes.parent)
      (ap (λ (ts : List ℕ). map text (type_names n ts)) said.faces.is ∙ types_text t n text s c.faces closes.faces)
      (fields_from rows values statics instances)
      (methods_from rows directs virtuals)
    where
      fields_from : class_rows n.file i ≡ Some said.rows → class_values n.file i ≡ Some (map read_value c.values)
          → map (field_content text) (static_fields n (map field_row c.statics) (map read_value c.values)) ≡ statics_said t c.statics c.values
          → map (field_content text) (map (field_desc n Zero) (map field_row c.instances)) ≡ map (field_said t NoInit) c.instances
          → map (field_content text) (fields_said n i) ≡ statics_said t c.statics c.values ++ map (field_said t NoInit) c.instances
      fields_from is given first second =
          rw (is, given, said.statics, said.instances)
          (map-append (field_content text) (static_fields n (map field_row c.statics) (map read_value c.values)) (map (field_desc n Zero) (map field_row c.instances))
          ∙ rw (first, second) refl)

      methods_from : class_rows n.file i ≡ Some said.rows
          → map (method_content text) (map (method_desc n) said.rows.directs) ≡ map (method_said t) c.directs
          → map (method_content text) (map (method_desc n) said.rows.virtuals) ≡ map (method_said t) c.virtuals
          → map (method_content text) (map (method_desc n) (methods_in (rows_of n.file i))) ≡ map (method_said t) (c.directs ++ c.virtuals)
      methods_from is first second =
          rw is
          (rw (map-append (method_desc n) said.rows.directs said.rows.virtuals, map-append (method_said t) c.directs c.virtuals)
          (map-append (method_content text) (map (method_desc n) said.rows.directs) (map (method_desc n) said.rows.virtuals) ∙ rw (first, second) refl))

  -- each class of a file whose rules on members, values and codes are not broken
  each_is : (number i : ℕ) (c : Class) → slice_get t.classes i ≡ Some c → IsWritable t → IsClosed t
      → broken_class_data n.file ≡ None → broken_values n.file ≡ None → broken_code n.file ≡ None
      → class_content text (class_desc n number i) ≡ class_said t c
  each_is number i c is fits closed members values codes =
      let said : ClassSaid n.file i c = s.says.class i c is in
      let lt : i < count_at n.file class_defs = omega (arith, s.says.classes, slice_get_within t.classes i c is) in
      let rows = held_there (class_rows n.file i) (rows_hold n.file (owner n.file i) said.rows) said.rows said.listed (rows_there n.file members i lt) in
      let read = held_there (class_values n.file i) (values_fit n.file (rows_of n.file i).statics (map read_value c.values)) (map read_value c.values)
      said.values (values_there n.file values i lt) in
      let statics : (rows_of n.file i).statics ≡ map field_row c.statics = ap (λ (o : Option ClassRows). (rows_in o).statics) rows.0 ∙ said.statics in
      let lists = subst (λ (o : Option ClassRows). All (HasLists n.file) (methods_in (rows_in o))) rows.0 (lists_there n.file codes i lt) in
      class_is number i c said (all_got ClassFits t.classes i c fits.classes is) (all_got (ClassCloses t) t.classes i c closed.classes is)
      rows.0 read.0 (subst (λ (fs : List MemberRow). values_fit n.file fs (map read_value c.values) ≡ true) statics read.1) lists

-- the classes of such a file behind any program
pub tables_say_contents : (p : Program) (file : List ℕ) (number : ℕ) (t : Tables) → IsSaid file t → IsWritable t → IsClosed t
    → broken_class_data file ≡ None → broken_values file ≡ None → broken_code file ≡ None
    → map (content_in (with_said p file)) (classes_said (named_file p file) number) ≡ content_of t
tables_say_contents p file number t says fits closed members values codes =
    let n : Named = named_file p file in
    let text : NameNo → List ℕ = text_in (with_said p file) in
    let s : Speaks t n text = record {
      says = says;
      types = closed.types;
      protos = closed.protos;
      fields = closed.fields;
      methods = closed.methods;
      string = string_text p file t says;
    } in
    rw says.classes (map_numbered (class_content text) (class_desc n number) (class_said t) t.classes 0
    (λ k c is. (let first : 0 + k ≡ k = omega arith in
    subst (λ (j : ℕ). class_content text (class_desc n number j) ≡ class_said t c) (sym first)
    (each_is t n text s number k c is fits closed members values codes))))
