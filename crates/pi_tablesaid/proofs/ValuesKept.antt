-- Values that fit the fields of the tables make a file keep X19, where the fields are those that it lists.
use Rattle.std.proofs.Common.{◌≡◌, ℕ, zero, suc, ◌+◌, ◌<◌, List, [], ◌∷◌, length, map, Bool, true, false, Option, Some, None, refl, sym, ap, ap₂, ◌∙◌, subst, arith, add-zero}
use Rattle.std.specs.Prelude.{◌&&◌, nat_lt, nat_le, is_some, slice_get, IsTrue, All, if◌then◌else◌}
use Rattle.std.specs.List.{list_all}
use Rattle.std.proofs.lemmas.Bool.{and_parts, ltb-true}
use Rattle.std.proofs.lemmas.List.Elements.{All-head, All-tail, All-get_or}
use Rattle.std.proofs.lemmas.Option.{slice_get_within, same_Some}
use Rattle.pi_format.specs.Tables.{count_at, field_ids, class_defs}
use Rattle.pi_format.specs.Rules.Header.{unless}
use Rattle.pi_format.specs.Rules.Strings.{type_units}
use Rattle.pi_format.specs.Rules.Lowest.{lower, lowest_from}
use Rattle.pi_format.specs.Rules.Rows.{MemberRow}
use Rattle.pi_format.specs.Rules.ClassData.{ClassRows, class_data_at, class_values_at, class_rows, rows_in, rows_of, broken_class_data}
use Rattle.pi_format.specs.Rules.Values.{names_reference, is_reference, value_fits, field_type, class_values, broken_values}
use Rattle.pi_format.proofs.Every.{all_weaker}
use Rattle.pi_dextables.specs.declared.tables.Class.{Class}
use Rattle.pi_dextables.specs.declared.tables.FieldRow.{FieldRow}
use Rattle.pi_dextables.specs.declared.tables.Member.{Member}
use Rattle.pi_dextables.specs.declared.tables.Tables.{Tables}
use Rattle.pi_dextables.specs.declared.tables.Value.{Value}
use Rattle.pi_dextables.specs.Items.{read_value}
use Rattle.pi_dextables.specs.Rows.{field_row}
use Rattle.pi_dextables.specs.Said.{MemberSaid, ClassSaid, IsSaid, held, values_fit}
use Rattle.pi_dextables.specs.Writable.{IsWritable}
use Rattle.pi_dextables.proofs.Each.{all_got}
use Rattle.pi_tablesaid.specs.Entries.{type_at, field_at, no_member, member_at}
use Rattle.pi_tablesaid.specs.Kept.{value_holds, values_hold, class_values_hold}
use Rattle.pi_tablesaid.specs.Closed.{IsType, FieldCloses, FieldListed, ClassCloses, IsClosed}
use Rattle.pi_tablesaid.proofs.TypesKept.{type_is}
use Rattle.pi_tablesaid.proofs.FieldsKept.{field_is}
use Rattle.pi_tablesaid.proofs.EachCode.{none_from}
use Rattle.pi_tablesaid.proofs.ClassesKept.{there}

-- a rule on things by number that is kept is kept by each of them
none_lower : (a b : Option ℕ) → lower a b ≡ None → (a ≡ None) × (b ≡ None)
none_lower None b e = (refl, e)
none_lower (Some x) None e = cc
none_lower (Some x) (Some y) e = by_test (nat_le x y) e
  where
    by_test : (b : Bool) → (if b then Some x else Some y) ≡ None → (Some x ≡ None) × (Some y ≡ None)
    by_test true e = cc
    by_test false e = cc

lowest_none : (place : ℕ → Option ℕ) (i n : ℕ) → lowest_from place i n ≡ None → (k : ℕ) → k < n → place (i + k) ≡ None
lowest_none place i zero e k lt = absurd (omega arith)
lowest_none place i (suc n) e zero lt = rw (add-zero i) ((none_lower (place i) (lowest_from place (i + 1) n) e).0)
lowest_none place i (suc n) e (suc k) lt =
    let at : i + 1 + k ≡ i + suc k = omega arith in
    subst (λ (j : ℕ). place j ≡ None) at (lowest_none place (i + 1) n ((none_lower (place i) (lowest_from place (i + 1) n) e).1) k (omega arith))

pub unless_holds : (b : Bool) (at : ℕ) → b ≡ true → unless b at ≡ None
unless_holds b at e = rw e refl

held_none : (b : Bool) (at : ℕ) → unless b at ≡ None → b ≡ true
held_none true at e = refl
held_none false at e = cc

-- what is held holds, where there is something
held_is : {X : Type 0} (b : Bool) (x : X) (o : Option X) → o ≡ held b x → is_some o ≡ true → o ≡ Some x
held_is true x o e some = e
held_is false x o e some = let no : is_some o ≡ false = ap is_some e in cc

pub held_some : {X : Type 0} (b : Bool) (x : X) (o : Option X) → o ≡ held b x → b ≡ true → is_some o ≡ true
held_some true x o e h = ap is_some e
held_some false x o e h = cc

-- the rows of a class are those that the file says, where it keeps X18
pub rows_listed : (file : List ℕ) (t : Tables) → IsSaid file t → broken_class_data file ≡ None → (k : ℕ) (c : Class) → slice_get t.classes k ≡ Some c
    → (said : ClassSaid file k c) → rows_of file k ≡ said.rows
rows_listed file t all none k c is said =
    let lt : k < count_at file class_defs = omega (arith, all.classes, slice_get_within t.classes k c is) in
    let place : 0 + k ≡ k = omega arith in
    let asked = rw place at (lowest_none (λ i. unless (is_some (class_rows file i)) (class_data_at file i)) 0 (count_at file class_defs) none k lt) in
    ap rows_in (held_is _ said.rows (class_rows file k) said.listed (held_none (is_some (class_rows file k)) (class_data_at file k) asked))

-- a type that values name
second_alike : (a b c : Bool) → (a ≡ true → b ≡ c) → (a && b) ≡ (a && c)
second_alike true b c same = same refl
second_alike false b c same = refl

reference_alike : (file : List ℕ) (t : Tables) → IsSaid file t → IsClosed t → (i : ℕ)
    → names_reference file i ≡ (nat_lt i (length t.types) && is_reference (type_at t i))
reference_alike file t said closed i =
    rw said.types
    (second_alike (nat_lt i (length t.types)) (is_reference (type_units file i)) (is_reference (type_at t i))
    (λ lt. ap is_reference (type_is file t said closed.types i (ltb-true i (length t.types) lt))))

value_alike : (file : List ℕ) (t : Tables) → IsSaid file t → IsClosed t → (ty : List ℕ) (v : Value)
    → value_fits file ty (read_value v) ≡ value_holds t ty v
unfolding value_fits value_holds
value_alike file t said closed ty v = rw (said.strings, reference_alike file t said closed v.number) refl

-- the type of a field
pub field_type_is : (file : List ℕ) (t : Tables) → IsSaid file t → IsClosed t → (i : ℕ) → i < length t.fields → field_type file i ≡ (field_at t i).ty
field_type_is file t said closed i lt =
    let m : Member = member_at t.fields i in
    let is : MemberSaid file field_ids i m = field_is file t said i lt in
    let type : IsType t m.kind = (All-get_or (FieldCloses t) t.fields i no_member lt closed.fields).kind in
    ap (λ e. type_units file e.kind) is ∙ type_is file t said closed.types m.kind type

values_alike : (file : List ℕ) (t : Tables) → IsSaid file t → IsClosed t → (fields : List FieldRow) (values : List Value)
    → All (λ f. f.id < length t.fields) fields → values_fit file (map field_row fields) (map read_value values) ≡ values_hold t fields values
values_alike file t said closed fields [] all = refl
values_alike file t said closed [] (v ∷ vs) all = refl
values_alike file t said closed (f ∷ fs) (v ∷ vs) all =
    let type = field_type_is file t said closed f.id (All-head (λ (g : FieldRow). g.id < length t.fields) f fs all) in
    ap₂ (λ (a b : Bool). a && b) (ap (λ ty. value_fits file ty (read_value v)) type ∙ value_alike file t said closed (field_at t f.id).ty v)
    (values_alike file t said closed fs vs (All-tail (λ (g : FieldRow). g.id < length t.fields) f fs all))

-- a test that all pass is passed by each
pub passed_at : {X : Type 0} (p : X → Bool) (xs : List X) (k : ℕ) (x : X) → list_all p xs ≡ true → slice_get xs k ≡ Some x → p x ≡ true
passed_at p [] k x all is = cc
passed_at p (y ∷ ys) zero x all is = ap p (sym (same_Some y x is)) ∙ (and_parts (p y) (list_all p ys) all).0
passed_at p (y ∷ ys) (suc k) x all is = passed_at p ys k x ((and_parts (p y) (list_all p ys) all).1) is

-- the values of a class
values_there : (file : List ℕ) (t : Tables) → IsSaid file t → IsClosed t → broken_class_data file ≡ None → (k : ℕ) (c : Class)
    → slice_get t.classes k ≡ Some c → class_values_hold t c ≡ true → is_some (class_values file k) ≡ true
values_there file t all closed none k c is holds =
    let said : ClassSaid file k c = all.class k c is in
    let closes : ClassCloses t c = all_got (ClassCloses t) t.classes k c closed.classes is in
    let fields : All (λ (f : FieldRow). f.id < length t.fields) c.statics =
    all_weaker (FieldListed t c.class true) (λ (f : FieldRow). f.id < length t.fields) c.statics (λ f h. h.id) closes.statics in
    let rows : (rows_of file k).statics ≡ map field_row c.statics = ap (λ (r : ClassRows). r.statics) (rows_listed file t all none k c is said) ∙ said.statics in
    held_some (values_fit file (rows_of file k).statics (map read_value c.values)) (map read_value c.values) (class_values file k) said.values
    (ap (λ (fields : List MemberRow). values_fit file fields (map read_value c.values)) rows ∙ values_alike file t all closed c.statics c.values fields ∙ holds)

-- X19
pub values_kept : (file : List ℕ) (t : Tables) → IsSaid file t → IsWritable t → IsClosed t
    → broken_class_data file ≡ None → IsTrue (list_all (class_values_hold t) t.classes) → broken_values file ≡ None
values_kept file t said fits closed none holds =
    none_from (λ i. unless (is_some (class_values file i)) (class_values_at file i)) 0 (count_at file class_defs)
    (λ k le lt. by_class k (there t.classes k (omega (arith, lt, said.classes))))
  where
    by_class : (k : ℕ) → (c : Class) × (slice_get t.classes k ≡ Some c) → unless (is_some (class_values file k)) (class_values_at file k) ≡ None
    by_class k (c, is) =
        unless_holds (is_some (class_values file k)) (class_values_at file k)
        (values_there file t said closed none k c is (passed_at (class_values_hold t) t.classes k c holds is))
