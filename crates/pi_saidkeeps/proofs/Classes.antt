-- What rule X17 asks of the classes of a file: each is defined once, behind its superclass and its interfaces, by texts.
use Rattle.std.proofs.Common.{◌≡◌, ℕ, zero, suc, ◌+◌, ◌<◌, ◌≤◌, List, [], ◌∷◌, ◌++◌, map, Bool, true, false, Some, None, refl, sym, ap, ◌∙◌, arith}
use Rattle.std.specs.Prelude.{◌==◌, ◌&&◌, not, nat_lt, nat_eq, option_map, IsTrue, if◌then◌else◌}
use Rattle.std.specs.List.{list_all, list_any}
use Rattle.std.proofs.lemmas.Bool.{and_parts, and_from, ltb-true}
use Rattle.std.proofs.lemmas.Cmp.{nat_eq_equiv}
use Rattle.pi_model.specs.declared.numbers.NameNo.{NameNo}
use Rattle.pi_model.specs.Distinct.{all_distinct}
use Rattle.pi_model.specs.Texts.{same_text}
use Rattle.pi_model.proofs.Kept.{all_more}
use Rattle.pi_bytes.specs.Numbers.{no_index}
use Rattle.pi_format.specs.Tables.{count_at, type_ids, class_defs}
use Rattle.pi_format.specs.Rules.Descriptors.{is_class_type}
use Rattle.pi_format.specs.Rules.Entries.{list_fits, list_at}
use Rattle.pi_format.specs.Rules.Lowest.{tabulation}
use Rattle.pi_format.specs.Rules.Strings.{type_units}
use Rattle.pi_format.specs.Rules.Classes.{ClassEntry, class_entry, is_class_id, is_defined_in, parent_holds, faces_hold, class_holds}
use Rattle.pi_format.specs.Rules.Classes as rules
use Rattle.pi_format.specs.Says.Names.{Named, type_name, type_names}
use Rattle.pi_format.specs.Says.Classes.{parent_name, class_desc, classes_said}
use Rattle.pi_format.proofs.Held.{TablesHold, entry_holds, class_kept}
use Rattle.pi_contents.specs.Contents.{ClassContent}
use Rattle.pi_contents.specs.Named.{class_content}
use Rattle.pi_contents.specs.Asked.{stands_earlier, parent_fits, faces_fit, class_fits, classes_fit}
use Rattle.pi_saidkeeps.proofs.Lists.{map-listed, listed_last, listed_same, any_listed, all_mapped, distinct_like, distinct-map}
use Rattle.pi_saidkeeps.proofs.Spelled.{IsRead, is_type, type_read, types_read}
use Rattle.pi_saidkeeps.proofs.Apart.{type_same}

-- the text of the class of a definition, and those of the first so many
abbrev class_text : List ℕ → ℕ → List ℕ
class_text file k = type_units file (class_entry file k).class

abbrev texts_before : List ℕ → ℕ → List (List ℕ)
texts_before file i = tabulation (class_text file) 0 i

-- a type is that of one of them by its text exactly where it is by its number
defined : (file : List ℕ) → TablesHold file → (i t : ℕ) → i ≤ count_at file class_defs → t < count_at file type_ids
    → list_any (same_text (type_units file t)) (texts_before file i) ≡ is_defined_in file i t
unfolding is_defined_in
defined file tables i t le lt =
    any_listed (same_text (type_units file t)) (class_text file) (λ k. (class_entry file k).class == t) 0 i
    (λ k less. type_same file tables t (class_entry file k).class lt (class_kept file k tables.classes (omega arith)).class)

earlier : (file : List ℕ) → TablesHold file → (i t : ℕ) → i ≤ count_at file class_defs → t < count_at file type_ids
    → stands_earlier (texts_before file (count_at file class_defs)) (texts_before file i) (type_units file t) ≡ rules.stands_earlier file i t
unfolding rules.stands_earlier
earlier file tables i t le lt =
    rw (defined file tables (count_at file class_defs) t (omega arith) lt, defined file tables i t le lt) refl

-- lists of names that say of each type of a file what the definitions up to one say
record Stand (file : List ℕ) (i : ℕ) (all before : List (List ℕ)) : Type 0 where
  new : (t : ℕ) → t < count_at file type_ids → list_any (same_text (type_units file t)) before ≡ is_defined_in file i t
  earlier : (t : ℕ) → t < count_at file type_ids → stands_earlier all before (type_units file t) ≡ rules.stands_earlier file i t

texts_stand : (file : List ℕ) → TablesHold file → (i : ℕ) → i ≤ count_at file class_defs → Stand file i (texts_before file (count_at file class_defs)) (texts_before file i)
texts_stand file tables i le = record { new = λ t lt. defined file tables i t le lt; earlier = λ t lt. earlier file tables i t le lt }

-- the superclass
parent_is : (text : NameNo → List ℕ) (n : Named) → IsRead text n → (i : ℕ) (all before : List (List ℕ)) → Stand n.file i all before → (e : ClassEntry)
    → parent_holds n.file i e ≡ true → parent_fits all before (type_units n.file e.class) (option_map text (parent_name n e.parent)) ≡ true
unfolding parent_holds rules.is_object
parent_is text n read i all before stand e holds = by_parent (e.parent == no_index) holds
  where
    by_parent : (b : Bool)
        → (if b then rules.is_object n.file e.class
        else not (rules.is_object n.file e.class) && (nat_lt e.parent (count_at n.file type_ids) && rules.stands_earlier n.file i e.parent)) ≡ true
        → parent_fits all before (type_units n.file e.class) (option_map text (if b then None else Some (type_name n e.parent))) ≡ true
    by_parent true h = h
    by_parent false h =
        let parts = and_parts (not (rules.is_object n.file e.class)) _ h in
        let there = and_parts (nat_lt e.parent (count_at n.file type_ids)) (rules.stands_earlier n.file i e.parent) parts.1 in
        let lt = ltb-true e.parent (count_at n.file type_ids) there.0 in
        rw (type_read text n read e.parent lt, stand.earlier e.parent lt)
        (and_from (not (rules.is_object n.file e.class)) (rules.stands_earlier n.file i e.parent) parts.0 there.1)

-- the interfaces
faces_are : (text : NameNo → List ℕ) (n : Named) → IsRead text n → (i : ℕ) (all before : List (List ℕ)) → Stand n.file i all before → (ts : List ℕ)
    → list_all (λ t. is_class_id n.file t && rules.stands_earlier n.file i t) ts ≡ true → all_distinct nat_eq ts ≡ true
    → faces_fit all before (map text (type_names n ts)) ≡ true
faces_are text n read i all before stand ts holds distinct =
    let file = n.file in
    let known : ℕ → Bool = λ t. is_class_id file t && rules.stands_earlier file i t in
    let types = all_more known (is_type file) (λ t h. (and_parts (is_type file t) (is_class_type (type_units file t)) (and_parts (is_class_id file t) _ h).0).0) ts holds in
    let images = all_mapped known (λ x. is_class_type x && stands_earlier all before x) (type_units file) each ts holds in
    let apart : all_distinct same_text (map (type_units file) ts) ≡ true =
    distinct-map same_text (type_units file) ts
    ∙ distinct_like (is_type file) nat_eq (λ t u. same_text (type_units file t) (type_units file u)) differ ts types distinct in
    rw (types_read text n read ts types)
    (and_from (list_all (λ x. is_class_type x && stands_earlier all before x) (map (type_units file) ts)) (all_distinct same_text (map (type_units file) ts)) images apart)
  where
    each : (t : ℕ) → (is_class_id n.file t && rules.stands_earlier n.file i t) ≡ true
        → (is_class_type (type_units n.file t) && stands_earlier all before (type_units n.file t)) ≡ true
    each t h =
        let parts = and_parts (is_class_id n.file t) (rules.stands_earlier n.file i t) h in
        let class = and_parts (is_type n.file t) (is_class_type (type_units n.file t)) parts.0 in
        and_from (is_class_type (type_units n.file t)) (stands_earlier all before (type_units n.file t)) class.1
        (stand.earlier t (ltb-true t (count_at n.file type_ids) class.0) ∙ parts.1)

    differ : (t u : ℕ) → is_type n.file t ≡ true → is_type n.file u ≡ true → nat_eq t u ≡ false → same_text (type_units n.file t) (type_units n.file u) ≡ false
    differ t u a b other =
        type_same n.file read.tables t u (ltb-true t (count_at n.file type_ids) a) (ltb-true u (count_at n.file type_ids) b)
        ∙ nat_eq_equiv.symm u t ∙ other

class_is : (text : NameNo → List ℕ) (n : Named) (number : ℕ) → IsRead text n → (i : ℕ) → i < count_at n.file class_defs
    → (all before : List (List ℕ)) → Stand n.file i all before → class_fits all before (class_content text (class_desc n number i)) ≡ true
unfolding class_desc faces_hold
class_is text n number read i lt all before stand =
    let e = class_entry n.file i in
    let holds : class_holds n.file i ≡ true = entry_holds n.file class_defs 32 (class_holds n.file) read.tables.classes i lt in
    let a = and_parts (is_class_id n.file e.class) (not (is_defined_in n.file i e.class) && (parent_holds n.file i e && faces_hold n.file i e)) holds in
    let b = and_parts (not (is_defined_in n.file i e.class)) (parent_holds n.file i e && faces_hold n.file i e) a.1 in
    let c = and_parts (parent_holds n.file i e) (faces_hold n.file i e) b.1 in
    let d = and_parts (list_fits n.file e.faces) _ c.1 in
    let f = and_parts (list_all (λ t. is_class_id n.file t && rules.stands_earlier n.file i t) (list_at n.file e.faces)) (all_distinct nat_eq (list_at n.file e.faces)) d.1 in
    let class = and_parts (is_type n.file e.class) (is_class_type (type_units n.file e.class)) a.0 in
    let there = ltb-true e.class (count_at n.file type_ids) class.0 in
    rw (type_read text n read e.class there)
    (and_from _ _ class.1 (and_from _ _ (ap not (stand.new e.class there) ∙ b.0)
    (and_from _ _ (parent_is text n read i all before stand e c.0) (faces_are text n read i all before stand (list_at n.file e.faces) f.0 f.1))))

name_is : (text : NameNo → List ℕ) (n : Named) (number : ℕ) → IsRead text n → (i : ℕ) → i < count_at n.file class_defs
    → text (class_desc n number i).name ≡ class_text n.file i
unfolding class_desc
name_is text n number read i lt = type_read text n read (class_entry n.file i).class (class_kept n.file i read.tables.classes lt).class

one_more : (file : List ℕ) (i : ℕ) → texts_before file i ++ class_text file i ∷ [] ≡ texts_before file (i + 1)
one_more file i =
    let place : 0 + i ≡ i = omega arith in
    sym (listed_last (class_text file) 0 i ∙ ap (λ (k : ℕ). texts_before file i ++ class_text file k ∷ []) place)

-- the classes from one on, by the names before it
classes_are : (text : NameNo → List ℕ) (n : Named) (number : ℕ) → IsRead text n → (i m : ℕ) → i + m ≡ count_at n.file class_defs
    → classes_fit (texts_before n.file (count_at n.file class_defs)) (texts_before n.file i) (map (class_content text) (tabulation (class_desc n number) i m)) ≡ true
classes_are text n number read i zero sum = refl
classes_are text n number read i (suc m) sum =
    let all = texts_before n.file (count_at n.file class_defs) in
    let first = class_content text (class_desc n number i) in
    let rest = map (class_content text) (tabulation (class_desc n number) (i + 1) m) in
    let next : texts_before n.file i ++ first.name ∷ [] ≡ texts_before n.file (i + 1) =
    ap (λ (t : List ℕ). texts_before n.file i ++ t ∷ []) (name_is text n number read i (omega arith)) ∙ one_more n.file i in
    and_from (class_fits all (texts_before n.file i) first) (classes_fit all (texts_before n.file i ++ first.name ∷ []) rest)
    (class_is text n number read i (omega arith) all (texts_before n.file i) (texts_stand n.file read.tables i (omega arith)))
    (rw next (classes_are text n number read (i + 1) m (omega arith)))

pub classes_hold : (text : NameNo → List ℕ) (n : Named) (number : ℕ) → IsRead text n
    → IsTrue (classes_fit (map (λ (c : ClassContent). c.name) (map (class_content text) (classes_said n number))) [] (map (class_content text) (classes_said n number)))
classes_hold text n number read =
    let count = count_at n.file class_defs in
    let names : map (λ (c : ClassContent). c.name) (map (class_content text) (classes_said n number)) ≡ texts_before n.file count =
    ap (map (λ (c : ClassContent). c.name)) (map-listed (class_content text) (class_desc n number) 0 count)
    ∙ (map-listed (λ (c : ClassContent). c.name) (λ k. class_content text (class_desc n number k)) 0 count
    ∙ listed_same (λ k. text (class_desc n number k).name) (class_text n.file) 0 count (λ k lt. name_is text n number read k (omega arith))) in
    rw names (classes_are text n number read 0 count (omega arith))
