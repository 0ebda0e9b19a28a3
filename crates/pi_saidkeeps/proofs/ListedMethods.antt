-- What rule X18 asks of the methods of a class: none stands twice, and each is as its flags and its name say.
use Rattle.std.proofs.Common.{◌≡◌, ℕ, suc, ◌<◌, List, [], ◌∷◌, length, map, Bool, true, false, Some, None, refl, sym, ◌∙◌, arith}
use Rattle.std.specs.Prelude.{◌==◌, ◌&&◌, ◌||◌, not, nat_lt, is_some, option_map, if◌then◌else◌}
use Rattle.std.specs.List.{list_all}
use Rattle.std.proofs.lemmas.Bool.{and_parts, and_from, and_left, and_right, not-true, not_from_false, eqb-true, eq-eqb, ne_eqb, ltb-true, false_from_ne_true, not_from_false}
use Rattle.std.proofs.lemmas.List.{length-map}
use Rattle.std.proofs.lemmas.List.Folds.{list_all-map}
use Rattle.pi_model.specs.declared.numbers.NameNo.{NameNo}
use Rattle.pi_model.specs.Distinct.{all_distinct}
use Rattle.pi_model.specs.Flags.{is_native, is_abstract}
use Rattle.pi_model.specs.Texts.{same_text}
use Rattle.pi_model.proofs.Kept.{all_more}
use Rattle.pi_format.specs.declared.lists.MemberList.TheVariants.{DirectMethods, VirtualMethods}
use Rattle.pi_format.specs.Tables.{count_at, type_ids, proto_ids, method_ids}
use Rattle.pi_format.specs.Rules.Entries.{list_at}
use Rattle.pi_format.specs.Rules.Strings.{type_units}
use Rattle.pi_format.specs.Rules.Members.{proto_entry, member_entry}
use Rattle.pi_format.specs.Rules.Classes.{class_entry}
use Rattle.pi_format.specs.Rules.Rows.{MemberRow}
use Rattle.pi_format.specs.Rules.ClassData.{Owner, owner, rows_of, methods_in, is_method_of, row_holds, ListedMethod, listed_method, has_no_params}
use Rattle.pi_format.specs.Rules.ClassData as rules
use Rattle.pi_format.specs.Says.Names.{Named, string_name, type_name, type_names, param_names, ret_name}
use Rattle.pi_format.specs.Says.Codes.{code_at, code_of}
use Rattle.pi_format.specs.Says.Classes.{method_desc}
use Rattle.pi_format.proofs.Held.{TablesHold, proto_kept, method_kept}
use Rattle.pi_said.proofs.Lists.{append_all}
use Rattle.pi_said.proofs.Members.{same_id, rows_fit}
use Rattle.pi_contents.specs.Contents.{Prototype, MethodContent}
use Rattle.pi_contents.specs.Named.{prototype, code_content, method_content}
use Rattle.pi_contents.specs.Asked.{same_texts, same_method, is_direct, method_is_listed}
use Rattle.pi_contents.specs.Asked as asked
use Rattle.pi_saidkeeps.proofs.Lists.{distinct_like, distinct-map}
use Rattle.pi_saidkeeps.proofs.Spelled.{IsRead, is_type, type_read}
use Rattle.pi_saidkeeps.proofs.Apart.{string_once, type_once}
use Rattle.pi_saidkeeps.proofs.Rising.{proto_once, method_once}
use Rattle.pi_saidkeeps.proofs.Entries.{proto_of, proto_read, value_types}

abbrev row_method : (NameNo → List ℕ) → Named → MemberRow → MethodContent
row_method text n row = method_content text (method_desc n row)

-- lists of types with the same texts are one list
types_once : (file : List ℕ) → TablesHold file → (ts us : List ℕ) → list_all (is_type file) ts ≡ true → list_all (is_type file) us ≡ true
    → same_texts (map (type_units file) ts) (map (type_units file) us) ≡ true → ts ≡ us
types_once file tables [] [] a b h = refl
types_once file tables [] (u ∷ us) a b h = cc
types_once file tables (t ∷ ts) [] a b h = cc
types_once file tables (t ∷ ts) (u ∷ us) a b h =
    let here = and_parts (is_type file t) (list_all (is_type file) ts) a in
    let there = and_parts (is_type file u) (list_all (is_type file) us) b in
    let parts = and_parts (same_text (type_units file t) (type_units file u)) (same_texts (map (type_units file) ts) (map (type_units file) us)) h in
    let first = type_once file tables t u (ltb-true t (count_at file type_ids) here.0) (ltb-true u (count_at file type_ids) there.0) parts.0 in
    let rest = types_once file tables ts us here.1 there.1 parts.1 in
    cc

-- prototypes with the same texts are one
same_proto : Prototype → Prototype → Bool
same_proto p q = same_text p.ret q.ret && same_texts p.params q.params

one_proto : (file : List ℕ) → TablesHold file → (i j : ℕ) → i < count_at file proto_ids → j < count_at file proto_ids → same_proto (proto_of file i) (proto_of file j) ≡ true → i ≡ j
unfolding same_proto
one_proto file tables i j a b h =
    let e = proto_entry file i in
    let f = proto_entry file j in
    let fits = proto_kept file i tables.protos a in
    let kept = proto_kept file j tables.protos b in
    let parts = and_parts (same_text (type_units file e.ret) (type_units file f.ret)) (same_texts (map (type_units file) (list_at file e.params)) (map (type_units file) (list_at file f.params))) h in
    proto_once file tables i j a b (type_once file tables e.ret f.ret fits.ret kept.ret parts.0)
    (types_once file tables (list_at file e.params) (list_at file f.params) (value_types file (list_at file e.params) fits.params) (value_types file (list_at file f.params) kept.params) parts.1)

same_as : (p q x y : Prototype) → p ≡ x → q ≡ y → same_proto p q ≡ true → same_proto x y ≡ true
same_as p q x y e f h = cc

-- two rows of one class are of two methods
one_method : (text : NameNo → List ℕ) (n : Named) → IsRead text n → (class : ℕ) (a b : MemberRow) → is_method_of n.file class a.id ≡ true → is_method_of n.file class b.id ≡ true
    → same_method (row_method text n a) (row_method text n b) ≡ true → a.id ≡ b.id
unfolding same_proto
one_method text n read class a b own_a own_b h =
    let file = n.file in
    let e = member_entry file method_ids a.id in
    let f = member_entry file method_ids b.id in
    let here = and_parts (nat_lt a.id (count_at file method_ids)) (e.class == class) own_a in
    let there = and_parts (nat_lt b.id (count_at file method_ids)) (f.class == class) own_b in
    let lt = ltb-true a.id (count_at file method_ids) here.0 in
    let less = ltb-true b.id (count_at file method_ids) there.0 in
    let fits = method_kept file a.id read.tables.methods lt in
    let kept = method_kept file b.id read.tables.methods less in
    let p : Prototype = prototype text (param_names n e.kind) (ret_name n e.kind) in
    let q : Prototype = prototype text (param_names n f.kind) (ret_name n f.kind) in
    let parts = and_parts (same_text (text (string_name n e.name)) (text (string_name n f.name))) (same_proto p q) h in
    let protos = same_as p q (proto_of file e.kind) (proto_of file f.kind) (proto_read text n read e.kind fits.kind) (proto_read text n read f.kind kept.kind) parts.1 in
    method_once file read.tables a.id b.id lt less (record {
      class = eqb-true e.class class here.1 ∙ sym (eqb-true f.class class there.1);
      name = string_once file read.tables e.name f.name fits.name kept.name (rw (read.each e.name fits.name, read.each f.name kept.name) at parts.0);
      kind = one_proto file read.tables e.kind f.kind fits.kind kept.kind protos;
    })

methods_differ : (text : NameNo → List ℕ) (n : Named) → IsRead text n → (class : ℕ) (a b : MemberRow) → is_method_of n.file class a.id ≡ true → is_method_of n.file class b.id ≡ true
    → same_id a b ≡ false → same_method (row_method text n a) (row_method text n b) ≡ false
methods_differ text n read class a b own_a own_b other =
    false_from_ne_true (same_method (row_method text n a) (row_method text n b))
    (λ h. let k = eq-eqb a.id b.id (one_method text n read class a b own_a own_b h) in cc)

pub methods_distinct : (text : NameNo → List ℕ) (n : Named) → IsRead text n → (i : ℕ)
    → all_distinct same_method (map (method_content text) (map (method_desc n) (methods_in (rows_of n.file i)))) ≡ true
methods_distinct text n read i =
    let class = (class_entry n.file i).class in
    let rows = methods_in (rows_of n.file i) in
    let fit = rows_fit n.file i in
    distinct-map same_method (method_content text) (map (method_desc n) rows)
    ∙ (distinct-map (λ a b. same_method (method_content text a) (method_content text b)) (method_desc n) rows
    ∙ distinct_like (λ (row : MemberRow). is_method_of n.file class row.id) same_id (λ a b. same_method (row_method text n a) (row_method text n b))
    (methods_differ text n read class) rows fit.own_methods fit.methods)

-- a method and the one that the rules see of it
record IsOf (m : MethodContent) (l : ListedMethod) : Type 0 where
  name : m.name ≡ l.name
  ret : m.proto.ret ≡ l.ret
  params : length m.proto.params ≡ length l.params
  flags : m.flags ≡ l.flags
  code : is_some m.code ≡ not (l.code == 0)

no_params : (l : ListedMethod) → (length l.params == 0) ≡ has_no_params l
no_params l = by_list l.params refl
  where
    by_list : (ts : List ℕ) → l.params ≡ ts → (length l.params == 0) ≡ has_no_params l
    by_list [] e = rw e refl
    by_list (t ∷ ts) e = rw e (ne_eqb (suc (length ts)) 0 (λ k. absurd (omega arith)))

has_code : (text : NameNo → List ℕ) (n : Named) (at : ℕ) → is_some (option_map (code_content text) (code_of n at)) ≡ not (at == 0)
has_code text n at = by_place (at == 0)
  where
    by_place : (b : Bool) → is_some (option_map (code_content text) (if b then None else Some (code_at n at))) ≡ not b
    by_place true = refl
    by_place false = refl

is_of_row : (text : NameNo → List ℕ) (n : Named) → IsRead text n → (class : ℕ) (row : MemberRow) → is_method_of n.file class row.id ≡ true → IsOf (row_method text n row) (listed_method n.file row)
is_of_row text n read class row own =
    let e = member_entry n.file method_ids row.id in
    let here = and_parts (nat_lt row.id (count_at n.file method_ids)) (e.class == class) own in
    let fits = method_kept n.file row.id read.tables.methods (ltb-true row.id (count_at n.file method_ids) here.0) in
    let proto = proto_kept n.file e.kind read.tables.protos fits.kind in
    let params = list_at n.file (proto_entry n.file e.kind).params in
    record {
      name = read.each e.name fits.name;
      ret = type_read text n read (proto_entry n.file e.kind).ret proto.ret;
      params = length-map (type_names n params) text ∙ length-map params (type_name n);
      flags = refl;
      code = has_code text n row.code;
    }

turned : (b x y : Bool) → (if not b then y else x) ≡ (if b then x else y)
turned true x y = refl
turned false x y = refl

-- what the rules ask of the one holds of the other
listed : (interface : Bool) (m : MethodContent) (l : ListedMethod) → IsOf m l → rules.method_fits interface l ≡ true → (rules.is_direct l && is_abstract l.flags) ≡ false → method_is_listed interface m ≡ true
unfolding rules.method_fits
listed interface m l of fits apart =
    let a = and_parts (rules.code_agrees l) _ fits in
    let b = and_parts (rules.initialiser_fits l) _ a.1 in
    let c = and_parts (rules.constructor_fits l) (rules.interface_fits interface l) b.1 in
    let code : asked.code_agrees m ≡ rules.code_agrees l =
    rw (of.code, of.flags) (turned (l.code == 0) (is_native l.flags || is_abstract l.flags) (not (is_native l.flags || is_abstract l.flags))) in
    let initialiser : asked.initialiser_fits m ≡ rules.initialiser_fits l = rw (of.name, of.flags, of.params, of.ret, no_params l) refl in
    let constructor : asked.constructor_fits m ≡ rules.constructor_fits l = rw (of.name, of.flags, of.ret) refl in
    let abstract_ones : asked.interface_fits interface m ≡ rules.interface_fits interface l = rw (of.flags, of.name) refl in
    let direct : (is_direct m && is_abstract m.flags) ≡ false = rw (of.flags, of.name) apart in
    and_from (asked.code_agrees m) _ (code ∙ a.0) (and_from (asked.initialiser_fits m) _ (initialiser ∙ b.0)
    (and_from (asked.constructor_fits m) _ (constructor ∙ c.0) (and_from (asked.interface_fits interface m) _ (abstract_ones ∙ c.1)
    (not_from_false (is_direct m && is_abstract m.flags) direct))))

direct_listed : (text : NameNo → List ℕ) (n : Named) → IsRead text n → (o : Owner) (row : MemberRow) → row_holds n.file o DirectMethods row ≡ true → method_is_listed o.interface (row_method text n row) ≡ true
direct_listed text n read o row h =
    let l = listed_method n.file row in
    let a = and_parts (is_method_of n.file o.class row.id) _ h in
    let b = and_parts (rules.is_direct l) (not (is_abstract row.flags) && rules.method_fits o.interface l) a.1 in
    let c = and_parts (not (is_abstract row.flags)) (rules.method_fits o.interface l) b.1 in
    listed o.interface (row_method text n row) l (is_of_row text n read o.class row a.0) c.1
    (and_right (rules.is_direct l) (is_abstract row.flags) (not-true (is_abstract row.flags) c.0))

virtual_listed : (text : NameNo → List ℕ) (n : Named) → IsRead text n → (o : Owner) (row : MemberRow) → row_holds n.file o VirtualMethods row ≡ true → method_is_listed o.interface (row_method text n row) ≡ true
virtual_listed text n read o row h =
    let l = listed_method n.file row in
    let a = and_parts (is_method_of n.file o.class row.id) _ h in
    let b = and_parts (not (rules.is_direct l)) (rules.method_fits o.interface l) a.1 in
    listed o.interface (row_method text n row) l (is_of_row text n read o.class row a.0) b.1
    (and_left (rules.is_direct l) (is_abstract row.flags) (not-true (rules.is_direct l) b.0))

pub methods_listed : (text : NameNo → List ℕ) (n : Named) → IsRead text n → (i : ℕ)
    → list_all (method_is_listed (owner n.file i).interface) (map (method_content text) (map (method_desc n) (methods_in (rows_of n.file i)))) ≡ true
methods_listed text n read i =
    let o = owner n.file i in
    let rows = rows_of n.file i in
    let fit = rows_fit n.file i in
    let each : MemberRow → Bool = λ row. method_is_listed o.interface (row_method text n row) in
    list_all-map (method_is_listed o.interface) (method_content text) (map (method_desc n) (methods_in rows))
    ∙ (list_all-map (λ m. method_is_listed o.interface (method_content text m)) (method_desc n) (methods_in rows)
    ∙ append_all each rows.directs rows.virtuals
    (all_more (row_holds n.file o DirectMethods) each (direct_listed text n read o) rows.directs fit.directs)
    (all_more (row_holds n.file o VirtualMethods) each (virtual_listed text n read o) rows.virtuals fit.virtuals))
