-- What rules X13 to X16 ask of the classes of a file: all that they name is what its tables have, which keeps these rules.
use Rattle.std.proofs.Common.{◌≡◌, ◌≢◌, ℕ, ◌<◌, List, ◌++◌, map, Bool, true, Option, Some, None, refl, arith}
use Rattle.std.specs.Prelude.{◌==◌, ◌&&◌, option_map, IsTrue}
use Rattle.std.specs.List.{list_all, flat_map}
use Rattle.std.proofs.lemmas.Bool.{and_parts, and_from, ltb-true, eqb-false, cond_both}
use Rattle.pi_model.specs.declared.numbers.NameNo.{NameNo}
use Rattle.pi_model.proofs.Kept.{all_more}
use Rattle.pi_bytes.specs.Numbers.{no_index}
use Rattle.pi_format.specs.Tables.{count_at, type_ids, class_defs}
use Rattle.pi_format.specs.Rules.Descriptors.{is_descriptor, is_class_type}
use Rattle.pi_format.specs.Rules.Entries.{list_at}
use Rattle.pi_format.specs.Rules.Strings.{type_units}
use Rattle.pi_format.specs.Rules.Classes.{class_entry, is_class_id}
use Rattle.pi_format.specs.Rules.ClassData.{rows_of}
use Rattle.pi_format.specs.Rules.ClassData as rules
use Rattle.pi_format.specs.Says.Names.{Named, type_name, type_names}
use Rattle.pi_format.specs.Says.Classes.{parent_name, fields_said, method_desc, class_desc, classes_said}
use Rattle.pi_format.proofs.Held.{class_kept}
use Rattle.pi_said.proofs.Lists.{append_all, listed_all}
use Rattle.pi_contents.specs.Contents.{Naming, NoName, OfText, OfType, OfField, OfMethod, ClassContent}
use Rattle.pi_contents.specs.Named.{field_content, method_content, class_content}
use Rattle.pi_contents.specs.Naming.{named_by_type, named_by_field, named_by_method, named_by_class, named_by, types_in, protos_in, fields_in, methods_in, types_named, protos_named, fields_named, methods_named}
use Rattle.pi_contents.specs.Asked.{proto_fits, field_fits, method_fits}
use Rattle.pi_saidkeeps.proofs.Lists.{map-listed, all_mapped, all_joined}
use Rattle.pi_saidkeeps.proofs.Spelled.{IsRead, is_type, type_read, types_read}
use Rattle.pi_saidkeeps.proofs.Entries.{naming_fits, type_fits, names_type}
use Rattle.pi_saidkeeps.proofs.FieldNames as values
use Rattle.pi_saidkeeps.proofs.MethodNames as codes

-- the superclass and the interfaces of a class
parent_named : (text : NameNo → List ℕ) (n : Named) → IsRead text n → (t : ℕ) → (t ≢ no_index → t < count_at n.file type_ids)
    → list_all naming_fits (named_by_type (option_map text (parent_name n t))) ≡ true
parent_named text n read t there =
    cond_both (t == no_index) None (Some (type_name n t)) (λ (o : Option NameNo). list_all naming_fits (named_by_type (option_map text o)) ≡ true)
    (λ e. refl)
    (λ e. and_from (naming_fits (OfType (text (type_name n t)))) true (names_type text n read t (there (eqb-false t no_index e))) refl)

faces_named : (text : NameNo → List ℕ) (n : Named) → IsRead text n → (ts : List ℕ) → list_all (is_class_id n.file) ts ≡ true
    → list_all naming_fits (map OfType (map text (type_names n ts))) ≡ true
faces_named text n read ts h =
    let types = all_more (is_class_id n.file) (is_type n.file) (λ t k. (and_parts (is_type n.file t) (is_class_type (type_units n.file t)) k).0) ts h in
    rw (types_read text n read ts types)
    (all_mapped is_descriptor naming_fits OfType (λ t k. k) (map (type_units n.file) ts)
    (all_mapped (is_type n.file) is_descriptor (type_units n.file) (λ t k. type_fits n.file read.tables t (ltb-true t (count_at n.file type_ids) k)) ts types))

class_named : (text : NameNo → List ℕ) (n : Named) (number : ℕ) → IsRead text n → (i : ℕ) → i < count_at n.file class_defs
    → list_all naming_fits (named_by_class (class_content text (class_desc n number i))) ≡ true
unfolding class_desc
class_named text n number read i lt =
    let e = class_entry n.file i in
    let fits = class_kept n.file i read.tables.classes lt in
    let parent = named_by_type (option_map text (parent_name n e.parent)) in
    let faces = map OfType (map text (type_names n (list_at n.file e.faces))) in
    let fields = flat_map (named_by_field (type_units n.file e.class)) (map (field_content text) (fields_said n i)) in
    let methods = flat_map (named_by_method (type_units n.file e.class)) (map (method_content text) (map (method_desc n) (rules.methods_in (rows_of n.file i)))) in
    rw (type_read text n read e.class fits.class)
    (and_from (is_descriptor (type_units n.file e.class)) (list_all naming_fits (parent ++ (faces ++ (fields ++ methods))))
    (type_fits n.file read.tables e.class fits.class)
    (append_all naming_fits parent (faces ++ (fields ++ methods)) (parent_named text n read e.parent fits.parent)
    (append_all naming_fits faces (fields ++ methods) (faces_named text n read (list_at n.file e.faces) fits.faces)
    (append_all naming_fits fields methods (values.fields_named text n read i) (codes.methods_named text n read i lt)))))

-- all that the classes of a file name
abbrev all_names : (NameNo → List ℕ) → Named → ℕ → List Naming
all_names text n number = named_by (map (class_content text) (classes_said n number))

all_named : (text : NameNo → List ℕ) (n : Named) (number : ℕ) → IsRead text n → list_all naming_fits (all_names text n number) ≡ true
all_named text n number read =
    let count = count_at n.file class_defs in
    let each : ClassContent → Bool = λ c. list_all naming_fits (named_by_class c) in
    let content : ℕ → ClassContent = λ k. class_content text (class_desc n number k) in
    all_joined each naming_fits named_by_class (λ c h. h) (map (class_content text) (classes_said n number))
    (rw (map-listed (class_content text) (class_desc n number) 0 count)
    (listed_all each content 0 count (λ k lt. class_named text n number read k (omega arith))))

-- by kind
types_fit : (x : Naming) → naming_fits x ≡ true → list_all is_descriptor (types_in x) ≡ true
types_fit NoName h = refl
types_fit (OfText s) h = refl
types_fit (OfType t) h = and_from (is_descriptor t) true h refl
types_fit (OfField f) h =
    let a = and_parts (field_fits f) (is_descriptor f.class && is_descriptor f.ty) h in
    let b = and_parts (is_descriptor f.class) (is_descriptor f.ty) a.1 in
    and_from (is_descriptor f.class) (is_descriptor f.ty && true) b.0 (and_from (is_descriptor f.ty) true b.1 refl)
types_fit (OfMethod m) h = (and_parts (proto_fits m.proto) _ ((and_parts (method_fits m) _ h).1)).1

protos_fit : (x : Naming) → naming_fits x ≡ true → list_all proto_fits (protos_in x) ≡ true
protos_fit NoName h = refl
protos_fit (OfText s) h = refl
protos_fit (OfType t) h = refl
protos_fit (OfField f) h = refl
protos_fit (OfMethod m) h = and_from (proto_fits m.proto) true ((and_parts (proto_fits m.proto) _ ((and_parts (method_fits m) _ h).1)).0) refl

fields_fit : (x : Naming) → naming_fits x ≡ true → list_all field_fits (fields_in x) ≡ true
fields_fit NoName h = refl
fields_fit (OfText s) h = refl
fields_fit (OfType t) h = refl
fields_fit (OfField f) h = and_from (field_fits f) true ((and_parts (field_fits f) _ h).0) refl
fields_fit (OfMethod m) h = refl

methods_fit : (x : Naming) → naming_fits x ≡ true → list_all method_fits (methods_in x) ≡ true
methods_fit NoName h = refl
methods_fit (OfText s) h = refl
methods_fit (OfType t) h = refl
methods_fit (OfField f) h = refl
methods_fit (OfMethod m) h = and_from (method_fits m) true ((and_parts (method_fits m) _ h).0) refl

pub types_hold : (text : NameNo → List ℕ) (n : Named) (number : ℕ) → IsRead text n → IsTrue (list_all is_descriptor (types_named (all_names text n number)))
types_hold text n number read = all_joined naming_fits is_descriptor types_in types_fit (all_names text n number) (all_named text n number read)

pub protos_hold : (text : NameNo → List ℕ) (n : Named) (number : ℕ) → IsRead text n → IsTrue (list_all proto_fits (protos_named (all_names text n number)))
protos_hold text n number read = all_joined naming_fits proto_fits protos_in protos_fit (all_names text n number) (all_named text n number read)

pub fields_hold : (text : NameNo → List ℕ) (n : Named) (number : ℕ) → IsRead text n → IsTrue (list_all field_fits (fields_named (all_names text n number)))
fields_hold text n number read = all_joined naming_fits field_fits fields_in fields_fit (all_names text n number) (all_named text n number read)

pub methods_hold : (text : NameNo → List ℕ) (n : Named) (number : ℕ) → IsRead text n → IsTrue (list_all method_fits (methods_named (all_names text n number)))
methods_hold text n number read = all_joined naming_fits method_fits methods_in methods_fit (all_names text n number) (all_named text n number read)
