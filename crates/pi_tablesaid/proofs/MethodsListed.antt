-- The methods that classes list: rows of them hold, and their ids are distinct, where what they say fits.
use Rattle.std.proofs.Common.{◌≡◌, ℕ, ◌<◌, not, List, [], ◌∷◌, length, get_or, map, Bool, true, false, Option, Some, None, option_map, refl, ap, ap₂, ◌∙◌, arith}
use Rattle.std.specs.Prelude.{◌==◌, ◌&&◌, ◌||◌, nat_eq, nat_lt, is_some, All, if◌then◌else◌}
use Rattle.std.specs.List.{list_all}
use Rattle.std.proofs.lemmas.Bool.{and_parts, and_from, eq-eqb, ne_eqb}
use Rattle.std.proofs.lemmas.Cmp.{nat_list_eq_equiv}
use Rattle.std.proofs.lemmas.List.Elements.{All-head, All-tail, All-get_or}
use Rattle.pi_model.specs.Distinct.{all_distinct}
use Rattle.pi_model.specs.Flags.{is_native, is_abstract}
use Rattle.pi_model.specs.Texts.{same_text}
use Rattle.pi_format.specs.declared.lists.MemberList.TheVariants.{DirectMethods, VirtualMethods}
use Rattle.pi_format.specs.Tables.{count_at, method_ids}
use Rattle.pi_format.specs.Rules.Entries.{list_at}
use Rattle.pi_format.specs.Rules.Members.{MemberEntry, member_entry, proto_entry}
use Rattle.pi_format.specs.Rules.Rows.{MemberRow}
use Rattle.pi_format.specs.Rules.Strings.{string_units, type_units}
use Rattle.pi_format.specs.Rules.ClassData.{Owner, ListedMethod, listed_method, is_method_of, has_no_params, is_direct as is_direct_row, code_agrees as code_agrees_row, method_fits as row_fits, row_holds}
use Rattle.pi_dextables.specs.declared.tables.Body.{Body}
use Rattle.pi_dextables.specs.declared.tables.Member.{Member}
use Rattle.pi_dextables.specs.declared.tables.MethodRow.{MethodRow}
use Rattle.pi_dextables.specs.declared.tables.Proto.{Proto}
use Rattle.pi_dextables.specs.declared.tables.Tables.{Tables}
use Rattle.pi_dextables.specs.Said.{IsSaid, MemberSaid, ProtoSaid, CodeSaid, MethodSaid, MethodsSaid}
use Rattle.pi_contents.specs.Contents.{MethodContent}
use Rattle.pi_contents.specs.Asked.{same_texts, same_method, is_direct, code_agrees, initialiser_fits, constructor_fits, interface_fits, method_is_listed}
use Rattle.pi_tablesaid.specs.Entries.{type_at, no_proto, no_member, member_at, method_at}
use Rattle.pi_tablesaid.specs.Content.{code_said, method_said}
use Rattle.pi_tablesaid.specs.Closed.{ProtoCloses, MethodCloses, MethodListed, IsClosed}
use Rattle.pi_tablesaid.proofs.TypesKept.{is_below, string_is, type_is}
use Rattle.pi_tablesaid.proofs.ProtosKept.{proto_is}
use Rattle.pi_tablesaid.proofs.MethodsKept.{method_is}
use Rattle.pi_tablesaid.proofs.RowsApart.{row_ids, distinct_ids}

-- a method as the file lists it, and as the tables say it
record Alike (listed : ListedMethod) (said : MethodContent) : Type 0 where
  name : listed.name ≡ said.name
  ret : listed.ret ≡ said.proto.ret
  params : has_no_params listed ≡ (length said.proto.params == 0)
  flags : listed.flags ≡ said.flags
  code : (listed.code == 0) ≡ not (is_some said.code)

direct_alike : (l : ListedMethod) (m : MethodContent) → Alike l m → is_direct_row l ≡ is_direct m
direct_alike l m alike = rw (alike.flags, alike.name) refl

turned : (b x y : Bool) → (if not b then x else y) ≡ (if b then y else x)
turned true x y = refl
turned false x y = refl

code_alike : (l : ListedMethod) (m : MethodContent) → Alike l m → code_agrees_row l ≡ code_agrees m
code_alike l m alike =
    rw (alike.flags, alike.code)
    (turned (is_some m.code) (is_native m.flags || is_abstract m.flags) (not (is_native m.flags || is_abstract m.flags)))

fits_alike : (l : ListedMethod) (m : MethodContent) (interface : Bool) → Alike l m
    → row_fits interface l ≡ (code_agrees m && (initialiser_fits m && (constructor_fits m && interface_fits interface m)))
unfolding row_fits
fits_alike l m interface alike = rw (code_alike l m alike, alike.flags, alike.name, alike.ret, alike.params) refl

-- what is asked of a method beside what is asked of its row
fits_parts : (l : ListedMethod) (m : MethodContent) (interface : Bool) → Alike l m → method_is_listed interface m ≡ true
    → (row_fits interface l ≡ true) × (not (is_direct m && is_abstract m.flags) ≡ true)
fits_parts l m interface alike fit =
    let last : Bool = not (is_direct m && is_abstract m.flags) in
    let code = and_parts (code_agrees m) (initialiser_fits m && (constructor_fits m && (interface_fits interface m && last))) fit in
    let initialiser = and_parts (initialiser_fits m) (constructor_fits m && (interface_fits interface m && last)) code.1 in
    let constructor = and_parts (constructor_fits m) (interface_fits interface m && last) initialiser.1 in
    let rest = and_parts (interface_fits interface m) last constructor.1 in
    let fits : (code_agrees m && (initialiser_fits m && (constructor_fits m && interface_fits interface m))) ≡ true =
    and_from (code_agrees m) (initialiser_fits m && (constructor_fits m && interface_fits interface m)) code.0
    (and_from (initialiser_fits m) (constructor_fits m && interface_fits interface m) initialiser.0
    (and_from (constructor_fits m) (interface_fits interface m) constructor.0 rest.0)) in
    (fits_alike l m interface alike ∙ fits, rest.1)

none_listed : (f : ℕ → List ℕ) (l : ListedMethod) (ids : List ℕ) → l.params ≡ ids → has_no_params l ≡ (length (map f ids) == 0)
none_listed f l [] e = rw e refl
none_listed f l (i ∷ ids) e = rw (e, ne_eqb (length (map f (i ∷ ids))) 0 (λ same. omega arith)) refl

-- a code has an offset, which is above 0
offset_alike : (file : List ℕ) (t : Tables) (at : ℕ) (code : Option Body) → CodeSaid file at code → (at == 0) ≡ not (is_some (option_map (code_said t) code))
offset_alike file t at None said = eq-eqb at 0 said
offset_alike file t at (Some b) said = ne_eqb at 0 (λ same. let behind = said.behind in omega arith)

method_alike : (file : List ℕ) (t : Tables) → IsSaid file t → IsClosed t → (row : MemberRow) (m : MethodRow) → m.id < length t.methods → MethodSaid file row m
    → Alike (listed_method file row) (method_said t m)
method_alike file t said closed row m lt is =
    let member : Member = member_at t.methods m.id in
    let closes : MethodCloses t member = All-get_or (MethodCloses t) t.methods m.id no_member lt closed.methods in
    let proto : Proto = get_or t.protos member.kind no_proto in
    let proto_closes : ProtoCloses t proto = All-get_or (ProtoCloses t) t.protos member.kind no_proto closes.kind closed.protos in
    let entry : MemberSaid file method_ids m.id member = method_is file t said m.id lt in
    let kind : (member_entry file method_ids row.id).kind ≡ member.kind =
    ap (λ (i : ℕ). (member_entry file method_ids i).kind) is.id ∙ ap (λ (e : MemberEntry). e.kind) entry in
    let name : (member_entry file method_ids row.id).name ≡ member.name =
    ap (λ (i : ℕ). (member_entry file method_ids i).name) is.id ∙ ap (λ (e : MemberEntry). e.name) entry in
    let told : ProtoSaid file member.kind proto = proto_is file t said member.kind closes.kind in
    record {
      name = ap (string_units file) name ∙ string_is file t said member.name closes.name;
      ret = ap (λ (i : ℕ). type_units file (proto_entry file i).ret) kind ∙ ap (type_units file) told.ret ∙ type_is file t said closed.types proto.ret proto_closes.ret;
      params = none_listed (type_at t) (listed_method file row) proto.params (ap (λ (i : ℕ). list_at file (proto_entry file i).params) kind ∙ told.params.is);
      flags = is.flags;
      code = offset_alike file t row.code m.code is.code;
    }

-- a method of a class, by its number
own_method : (file : List ℕ) (t : Tables) → IsSaid file t → (class : ℕ) (kind : Bool) (row : MemberRow) (m : MethodRow) → MethodListed t class kind m
    → row.id ≡ m.id → is_method_of file class row.id ≡ true
own_method file t said class kind row m listed e =
    let is : MemberSaid file method_ids m.id (member_at t.methods m.id) = method_is file t said m.id listed.id in
    let owner : (member_entry file method_ids row.id).class ≡ class =
    ap (λ (i : ℕ). (member_entry file method_ids i).class) e ∙ ap (λ (n : MemberEntry). n.class) is ∙ listed.class in
    and_from (nat_lt row.id (count_at file method_ids)) ((member_entry file method_ids row.id).class == class)
    (is_below row.id (count_at file method_ids) m.id (length t.methods) e said.methods listed.id)
    (eq-eqb (member_entry file method_ids row.id).class class owner)

not_abstract : (direct abstract : Bool) → direct ≡ true → not (direct && abstract) ≡ true → not abstract ≡ true
not_abstract direct abstract e holds = rw e at holds

direct_holds : (file : List ℕ) (t : Tables) → IsSaid file t → IsClosed t → (o : Owner) (row : MemberRow) (m : MethodRow) → MethodSaid file row m
    → MethodListed t o.class true m → method_is_listed o.interface (method_said t m) ≡ true → row_holds file o DirectMethods row ≡ true
direct_holds file t said closed o row m is listed fit =
    let alike = method_alike file t said closed row m listed.id is in
    let parts = fits_parts (listed_method file row) (method_said t m) o.interface alike fit in
    let concrete : not (is_abstract row.flags) ≡ true =
    ap (λ (flags : ℕ). not (is_abstract flags)) is.flags ∙ not_abstract (is_direct (method_said t m)) (is_abstract m.flags) listed.direct parts.1 in
    and_from (is_method_of file o.class row.id) (is_direct_row (listed_method file row) && (not (is_abstract row.flags) && row_fits o.interface (listed_method file row)))
    (own_method file t said o.class true row m listed is.id)
    (and_from (is_direct_row (listed_method file row)) (not (is_abstract row.flags) && row_fits o.interface (listed_method file row))
    (direct_alike (listed_method file row) (method_said t m) alike ∙ listed.direct)
    (and_from (not (is_abstract row.flags)) (row_fits o.interface (listed_method file row)) concrete parts.0))

virtual_holds : (file : List ℕ) (t : Tables) → IsSaid file t → IsClosed t → (o : Owner) (row : MemberRow) (m : MethodRow) → MethodSaid file row m
    → MethodListed t o.class false m → method_is_listed o.interface (method_said t m) ≡ true → row_holds file o VirtualMethods row ≡ true
virtual_holds file t said closed o row m is listed fit =
    let alike = method_alike file t said closed row m listed.id is in
    let parts = fits_parts (listed_method file row) (method_said t m) o.interface alike fit in
    and_from (is_method_of file o.class row.id) (not (is_direct_row (listed_method file row)) && row_fits o.interface (listed_method file row))
    (own_method file t said o.class false row m listed is.id)
    (and_from (not (is_direct_row (listed_method file row))) (row_fits o.interface (listed_method file row))
    (ap not (direct_alike (listed_method file row) (method_said t m) alike ∙ listed.direct)) parts.0)

-- a test of rows that holds of each row of a method
each_holds : (file : List ℕ) (t : Tables) (class : ℕ) (kind interface : Bool) (test : MemberRow → Bool)
    → ((row : MemberRow) (m : MethodRow) → MethodSaid file row m → MethodListed t class kind m → method_is_listed interface (method_said t m) ≡ true → test row ≡ true)
    → (rows : List MemberRow) (ms : List MethodRow) → MethodsSaid file rows ms → All (MethodListed t class kind) ms
    → list_all (method_is_listed interface) (map (method_said t) ms) ≡ true → list_all test rows ≡ true
each_holds file t class kind interface test holds [] [] said listed fit = refl
each_holds file t class kind interface test holds (row ∷ rows) (m ∷ ms) said listed fit =
    let parts = and_parts (method_is_listed interface (method_said t m)) (list_all (method_is_listed interface) (map (method_said t) ms)) fit in
    and_from (test row) (list_all test rows) (holds row m said.0 (All-head (MethodListed t class kind) m ms listed) parts.0)
    (each_holds file t class kind interface test holds rows ms said.1 (All-tail (MethodListed t class kind) m ms listed) parts.1)
each_holds file t class kind interface test holds [] (m ∷ ms) said listed fit = absurd said
each_holds file t class kind interface test holds (row ∷ rows) [] said listed fit = absurd said

pub directs_hold : (file : List ℕ) (t : Tables) → IsSaid file t → IsClosed t → (o : Owner) (rows : List MemberRow) (ms : List MethodRow) → MethodsSaid file rows ms
    → All (MethodListed t o.class true) ms → list_all (method_is_listed o.interface) (map (method_said t) ms) ≡ true
    → list_all (row_holds file o DirectMethods) rows ≡ true
directs_hold file t said closed o = each_holds file t o.class true o.interface (row_holds file o DirectMethods) (direct_holds file t said closed o)

pub virtuals_hold : (file : List ℕ) (t : Tables) → IsSaid file t → IsClosed t → (o : Owner) (rows : List MemberRow) (ms : List MethodRow) → MethodsSaid file rows ms
    → All (MethodListed t o.class false) ms → list_all (method_is_listed o.interface) (map (method_said t) ms) ≡ true
    → list_all (row_holds file o VirtualMethods) rows ≡ true
virtuals_hold file t said closed o = each_holds file t o.class false o.interface (row_holds file o VirtualMethods) (virtual_holds file t said closed o)

-- methods of one id are the same
texts_themselves : (ts : List (List ℕ)) → same_texts ts ts ≡ true
texts_themselves [] = refl
texts_themselves (x ∷ ts) = and_from (same_text x x) (same_texts ts ts) (nat_list_eq_equiv.refl x) (texts_themselves ts)

same_itself : (t : Tables) (m n : MethodRow) → m.id ≡ n.id → same_method (method_said t m) (method_said t n) ≡ true
same_itself t m n e =
    rw e (and_from (same_text name name) (same_text ret ret && same_texts params params) (nat_list_eq_equiv.refl name)
    (and_from (same_text ret ret) (same_texts params params) (nat_list_eq_equiv.refl ret) (texts_themselves params)))
  where
    name : List ℕ
    name = (method_at t n.id).name

    ret : List ℕ
    ret = (method_at t n.id).proto.ret

    params : List (List ℕ)
    params = (method_at t n.id).proto.params

pub method_ids_distinct : (t : Tables) (ms : List MethodRow) → all_distinct same_method (map (method_said t) ms) ≡ true
    → all_distinct nat_eq (map (λ (m : MethodRow). m.id) ms) ≡ true
method_ids_distinct t ms distinct = distinct_ids same_method (method_said t) (λ (m : MethodRow). m.id) (same_itself t) ms distinct

-- the ids of the rows of methods
pub method_ids_said : (file : List ℕ) (rows : List MemberRow) (ms : List MethodRow) → MethodsSaid file rows ms
    → row_ids rows ≡ map (λ (m : MethodRow). m.id) ms
method_ids_said file [] [] said = refl
method_ids_said file (row ∷ rows) (m ∷ ms) said = ap₂ (λ (i : ℕ) (is : List ℕ). i ∷ is) said.0.id (method_ids_said file rows ms said.1)
method_ids_said file [] (m ∷ ms) said = absurd said
method_ids_said file (row ∷ rows) [] said = absurd said
