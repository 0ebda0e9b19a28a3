-- The fields that classes list: rows of them hold, and their ids are distinct, where what they say fits.
use Rattle.std.proofs.Common.{◌≡◌, ℕ, not, List, [], ◌∷◌, ◌++◌, length, map, Bool, true, false, refl, sym, ap, ap₂, ◌∙◌}
use Rattle.std.specs.Prelude.{◌==◌, ◌&&◌, ◌||◌, nat_eq, nat_lt, All, if◌then◌else◌}
use Rattle.std.specs.List.{list_all, list_any}
use Rattle.std.proofs.lemmas.Bool.{and_parts, and_from, eq-eqb}
use Rattle.std.proofs.lemmas.Cmp.{nat_list_eq_equiv}
use Rattle.std.proofs.lemmas.List.{map-append}
use Rattle.std.proofs.lemmas.List.Elements.{All-head, All-tail}
use Rattle.pi_model.specs.Distinct.{all_distinct}
use Rattle.pi_model.specs.Flags.{is_static}
use Rattle.pi_model.specs.Texts.{same_text}
use Rattle.pi_format.specs.declared.lists.MemberList.TheVariants.{StaticFields, InstanceFields}
use Rattle.pi_format.specs.Tables.{count_at, field_ids}
use Rattle.pi_format.specs.Rules.Members.{MemberEntry, member_entry}
use Rattle.pi_format.specs.Rules.ClassData.{Owner, is_field_of, row_holds}
use Rattle.pi_dextables.specs.declared.tables.FieldRow.{FieldRow}
use Rattle.pi_dextables.specs.declared.tables.Tables.{Tables}
use Rattle.pi_dextables.specs.declared.tables.Value.{Value}
use Rattle.pi_dextables.specs.Rows.{field_row}
use Rattle.pi_dextables.specs.Said.{MemberSaid, IsSaid}
use Rattle.pi_contents.specs.Contents.{FieldContent, NoInit}
use Rattle.pi_contents.specs.Asked.{same_field, field_is_listed}
use Rattle.pi_tablesaid.specs.Entries.{field_at, member_at}
use Rattle.pi_tablesaid.specs.Content.{field_said, statics_said}
use Rattle.pi_tablesaid.specs.Closed.{FieldListed}
use Rattle.pi_tablesaid.proofs.TypesKept.{is_below}
use Rattle.pi_tablesaid.proofs.FieldsKept.{field_is}
use Rattle.pi_tablesaid.proofs.RowsApart.{distinct_ids}

-- what the tests of fields see does not depend on the values
none_alike : (t : Tables) (f : FieldContent) (fs : List FieldRow) (vs : List Value) (others : List FieldContent)
    → list_any (same_field f) (statics_said t fs vs ++ others) ≡ list_any (same_field f) (map (field_said t NoInit) fs ++ others)
none_alike t f [] vs others = refl
none_alike t f (g ∷ gs) [] others = ap (λ (b : Bool). same_field f (field_said t NoInit g) || b) (none_alike t f gs [] others)
none_alike t f (g ∷ gs) (v ∷ vs) others = ap (λ (b : Bool). same_field f (field_said t NoInit g) || b) (none_alike t f gs vs others)

distinct_alike : (t : Tables) (fs : List FieldRow) (vs : List Value) (others : List FieldContent)
    → all_distinct same_field (statics_said t fs vs ++ others) ≡ all_distinct same_field (map (field_said t NoInit) fs ++ others)
distinct_alike t [] vs others = refl
distinct_alike t (f ∷ fs) [] others =
    ap₂ (λ (a b : Bool). if a then false else b) (none_alike t (field_said t NoInit f) fs [] others) (distinct_alike t fs [] others)
distinct_alike t (f ∷ fs) (v ∷ vs) others =
    ap₂ (λ (a b : Bool). if a then false else b) (none_alike t (field_said t NoInit f) fs vs others) (distinct_alike t fs vs others)

-- fields of one id are the same
same_itself : (t : Tables) (f g : FieldRow) → f.id ≡ g.id → same_field (field_said t NoInit f) (field_said t NoInit g) ≡ true
same_itself t f g e =
    rw e (and_from (same_text (field_at t g.id).name (field_at t g.id).name) (same_text (field_at t g.id).ty (field_at t g.id).ty)
    (nat_list_eq_equiv.refl (field_at t g.id).name) (nat_list_eq_equiv.refl (field_at t g.id).ty))

pub field_ids_distinct : (t : Tables) (fs gs : List FieldRow) (vs : List Value)
    → all_distinct same_field (statics_said t fs vs ++ map (field_said t NoInit) gs) ≡ true → all_distinct nat_eq (map (λ (f : FieldRow). f.id) (fs ++ gs)) ≡ true
field_ids_distinct t fs gs vs distinct =
    distinct_ids same_field (field_said t NoInit) (λ (f : FieldRow). f.id) (same_itself t) (fs ++ gs)
    (ap (all_distinct same_field) (map-append (field_said t NoInit) fs gs) ∙ sym (distinct_alike t fs vs (map (field_said t NoInit) gs)) ∙ distinct)

-- a field of a class, by its number
own_field : (file : List ℕ) (t : Tables) → IsSaid file t → (class : ℕ) (kind : Bool) (f : FieldRow) → FieldListed t class kind f
    → is_field_of file class f.id ≡ true
own_field file t said class kind f listed =
    let is : MemberSaid file field_ids f.id (member_at t.fields f.id) = field_is file t said f.id listed.id in
    and_from (nat_lt f.id (count_at file field_ids)) ((member_entry file field_ids f.id).class == class)
    (is_below f.id (count_at file field_ids) f.id (length t.fields) refl said.fields listed.id)
    (eq-eqb (member_entry file field_ids f.id).class class (ap (λ (e : MemberEntry). e.class) is ∙ listed.class))

pub statics_hold : (file : List ℕ) (t : Tables) → IsSaid file t → (o : Owner) (fs : List FieldRow) → All (FieldListed t o.class true) fs
    → list_all (row_holds file o StaticFields) (map field_row fs) ≡ true
statics_hold file t said o [] listed = refl
statics_hold file t said o (f ∷ fs) listed =
    let here : FieldListed t o.class true f = All-head (FieldListed t o.class true) f fs listed in
    and_from (row_holds file o StaticFields (field_row f)) (list_all (row_holds file o StaticFields) (map field_row fs))
    (and_from (is_field_of file o.class f.id) (is_static f.flags) (own_field file t said o.class true f here) here.static)
    (statics_hold file t said o fs (All-tail (FieldListed t o.class true) f fs listed))

-- a field that is not static is listed by no interface
not_listed : (static interface : Bool) → static ≡ false → (static || not interface) ≡ true → (not static && not interface) ≡ true
not_listed static interface e holds = rw e (rw e at holds)

pub instances_hold : (file : List ℕ) (t : Tables) → IsSaid file t → (o : Owner) (fs : List FieldRow) → All (FieldListed t o.class false) fs
    → list_all (field_is_listed o.interface) (map (field_said t NoInit) fs) ≡ true → list_all (row_holds file o InstanceFields) (map field_row fs) ≡ true
instances_hold file t said o [] listed fit = refl
instances_hold file t said o (f ∷ fs) listed fit =
    let here : FieldListed t o.class false f = All-head (FieldListed t o.class false) f fs listed in
    let parts = and_parts (is_static f.flags || not o.interface) (list_all (field_is_listed o.interface) (map (field_said t NoInit) fs)) fit in
    and_from (row_holds file o InstanceFields (field_row f)) (list_all (row_holds file o InstanceFields) (map field_row fs))
    (and_from (is_field_of file o.class f.id) (not (is_static f.flags) && not o.interface) (own_field file t said o.class false f here)
    (not_listed (is_static f.flags) o.interface here.static parts.0))
    (instances_hold file t said o fs (All-tail (FieldListed t o.class false) f fs listed) parts.1)
