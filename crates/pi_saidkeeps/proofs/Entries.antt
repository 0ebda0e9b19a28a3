-- What a file's types, prototypes, fields and methods are called, and that they are what the rules X13 to X16 ask.
use Rattle.std.proofs.Common.{◌≡◌, ℕ, ◌+◌, ◌-◌, ◌<◌, List, map, Bool, true, refl}
use Rattle.std.specs.Prelude.{◌==◌, ◌&&◌, ◌||◌, not, nat_lt, nat_le, sum_by}
use Rattle.std.specs.List.{list_all}
use Rattle.std.proofs.lemmas.Bool.{and_parts, and_from, le-leb, ltb-true}
use Rattle.std.proofs.lemmas.List.Folds.{fold-map}
use Rattle.pi_model.specs.declared.numbers.NameNo.{NameNo}
use Rattle.pi_model.proofs.Kept.{all_more}
use Rattle.pi_format.specs.Tables.{count_at, string_ids, type_ids, proto_ids, field_ids, method_ids}
use Rattle.pi_format.specs.Rules.Descriptors.{is_descriptor, is_class_type, is_array_type, is_void, is_member_name, is_method_name, words_of_type}
use Rattle.pi_format.specs.Rules.Entries.{list_at}
use Rattle.pi_format.specs.Rules.Strings.{string_units, type_string, type_units, type_holds}
use Rattle.pi_format.specs.Rules.Members.{proto_entry, member_entry, is_value_type, member_rises, field_holds, method_holds}
use Rattle.pi_format.specs.Rules.Members as rules
use Rattle.pi_format.specs.Says.Names.{Named, type_name, field_ref, method_ref, param_names, ret_name}
use Rattle.pi_format.proofs.Held.{TablesHold, entry_holds, proto_kept, field_kept, method_kept}
use Rattle.pi_contents.specs.Contents.{FieldName, Prototype, MethodName, Naming, NoName, OfText, OfType, OfField, OfMethod}
use Rattle.pi_contents.specs.Named.{prototype, field_name, method_name}
use Rattle.pi_contents.specs.Asked.{is_value, proto_fits, field_fits, method_fits}
use Rattle.pi_saidkeeps.proofs.Lists.{all_mapped}
use Rattle.pi_saidkeeps.proofs.Spelled.{IsRead, is_type, type_read, types_read}

-- the prototype, the field and the method of a number, by texts
abbrev pub proto_of : List ℕ → ℕ → Prototype
proto_of file i = record { params = map (type_units file) (list_at file (proto_entry file i).params); ret = type_units file (proto_entry file i).ret }

abbrev pub field_of : List ℕ → ℕ → FieldName
field_of file i = record {
  class = type_units file (member_entry file field_ids i).class;
  name = string_units file (member_entry file field_ids i).name;
  ty = type_units file (member_entry file field_ids i).kind;
}

abbrev pub method_of : List ℕ → ℕ → MethodName
method_of file i = record {
  class = type_units file (member_entry file method_ids i).class;
  name = string_units file (member_entry file method_ids i).name;
  proto = proto_of file (member_entry file method_ids i).kind;
}

-- so they are called in a program
pub value_types : (file : List ℕ) (ts : List ℕ) → list_all (is_value_type file) ts ≡ true → list_all (is_type file) ts ≡ true
value_types file ts h = all_more (is_value_type file) (is_type file) (λ t k. (and_parts (is_type file t) (not (is_void (type_units file t))) k).0) ts h

pub proto_read : (text : NameNo → List ℕ) (n : Named) → IsRead text n → (i : ℕ) → i < count_at n.file proto_ids
    → prototype text (param_names n i) (ret_name n i) ≡ proto_of n.file i
proto_read text n read i lt =
    let fits = proto_kept n.file i read.tables.protos lt in
    let params = types_read text n read (list_at n.file (proto_entry n.file i).params) (value_types n.file (list_at n.file (proto_entry n.file i).params) fits.params) in
    let ret = type_read text n read (proto_entry n.file i).ret fits.ret in
    rw (params, ret) refl

pub field_read : (text : NameNo → List ℕ) (n : Named) → IsRead text n → (i : ℕ) → i < count_at n.file field_ids
    → field_name text (field_ref n i) ≡ field_of n.file i
field_read text n read i lt =
    let e = member_entry n.file field_ids i in
    let fits = field_kept n.file i read.tables.fields lt in
    rw (type_read text n read e.class fits.class, read.each e.name fits.name, type_read text n read e.kind fits.kind) refl

pub method_read : (text : NameNo → List ℕ) (n : Named) → IsRead text n → (i : ℕ) → i < count_at n.file method_ids
    → method_name text (method_ref n i) ≡ method_of n.file i
method_read text n read i lt =
    let e = member_entry n.file method_ids i in
    let fits = method_kept n.file i read.tables.methods lt in
    rw (type_read text n read e.class fits.class, read.each e.name fits.name, proto_read text n read e.kind fits.kind) refl

-- types are descriptors
pub type_fits : (file : List ℕ) → TablesHold file → (t : ℕ) → t < count_at file type_ids → is_descriptor (type_units file t) ≡ true
type_fits file tables t lt =
    let holds : type_holds file t ≡ true = entry_holds file type_ids 4 (type_holds file) tables.types t lt in
    let a = and_parts (nat_lt (type_string file t) (count_at file string_ids))
    (((t == 0) || nat_lt (type_string file (t - 1)) (type_string file t)) && is_descriptor (type_units file t)) holds in
    (and_parts ((t == 0) || nat_lt (type_string file (t - 1)) (type_string file t)) (is_descriptor (type_units file t)) a.1).1

-- prototypes take values, with at most 255 argument words
value_fits : (file : List ℕ) (t : ℕ) → is_value_type file t ≡ true → is_value (type_units file t) ≡ true
value_fits file t h = (and_parts (is_type file t) (not (is_void (type_units file t))) h).1

protos_fit : (file : List ℕ) → TablesHold file → (i : ℕ) → i < count_at file proto_ids → proto_fits (proto_of file i) ≡ true
protos_fit file tables i lt =
    let params = list_at file (proto_entry file i).params in
    let fits = proto_kept file i tables.protos lt in
    let values = all_mapped (is_value_type file) is_value (type_units file) (value_fits file) params fits.params in
    let words : sum_by words_of_type (map (type_units file) params) ≡ sum_by (λ t. words_of_type (type_units file t)) params =
    fold-map (λ a t. a + words_of_type t) (type_units file) 0 params in
    and_from (list_all is_value (map (type_units file) params)) (nat_le (sum_by words_of_type (map (type_units file) params)) 255) values
    (rw words (le-leb (sum_by (λ t. words_of_type (type_units file t)) params) 255 fits.words))

-- fields and methods are of a class, and have the names of such
fields_fit : (file : List ℕ) → TablesHold file → (i : ℕ) → i < count_at file field_ids → field_fits (field_of file i) ≡ true
fields_fit file tables i lt =
    let e = member_entry file field_ids i in
    let named : Bool = nat_lt e.name (count_at file string_ids) && is_member_name (string_units file e.name) in
    let holds : field_holds file i ≡ true = entry_holds file field_ids 8 (field_holds file) tables.fields i lt in
    let fits = (and_parts (rules.field_fits file e) (member_rises file field_ids i) holds).0 in
    let a = and_parts (is_type file e.class) (is_class_type (type_units file e.class) && (is_value_type file e.kind && named)) fits in
    let b = and_parts (is_class_type (type_units file e.class)) (is_value_type file e.kind && named) a.1 in
    let c = and_parts (is_value_type file e.kind) named b.1 in
    let d = and_parts (nat_lt e.name (count_at file string_ids)) (is_member_name (string_units file e.name)) c.1 in
    and_from (is_class_type (type_units file e.class)) (is_value (type_units file e.kind) && is_member_name (string_units file e.name)) b.0
    (and_from (is_value (type_units file e.kind)) (is_member_name (string_units file e.name)) (value_fits file e.kind c.0) d.1)

methods_fit : (file : List ℕ) → TablesHold file → (i : ℕ) → i < count_at file method_ids → method_fits (method_of file i) ≡ true
methods_fit file tables i lt =
    let e = member_entry file method_ids i in
    let named : Bool = nat_lt e.name (count_at file string_ids) && is_method_name (string_units file e.name) in
    let owned : Bool = is_class_type (type_units file e.class) || is_array_type (type_units file e.class) in
    let holds : method_holds file i ≡ true = entry_holds file method_ids 8 (method_holds file) tables.methods i lt in
    let fits = (and_parts (rules.method_fits file e) (member_rises file method_ids i) holds).0 in
    let a = and_parts (is_type file e.class) (owned && (nat_lt e.kind (count_at file proto_ids) && named)) fits in
    let b = and_parts owned (nat_lt e.kind (count_at file proto_ids) && named) a.1 in
    let c = and_parts (nat_lt e.kind (count_at file proto_ids)) named b.1 in
    let d = and_parts (nat_lt e.name (count_at file string_ids)) (is_method_name (string_units file e.name)) c.1 in
    and_from owned (is_method_name (string_units file e.name)) b.0 d.1

-- what is named keeps what the rules ask of it
abbrev pub naming_fits : Naming → Bool
naming_fits NoName = true
naming_fits (OfText s) = true
naming_fits (OfType t) = is_descriptor t
naming_fits (OfField f) = field_fits f && (is_descriptor f.class && is_descriptor f.ty)
naming_fits (OfMethod m) =
    method_fits m && (proto_fits m.proto
    && (is_descriptor m.class && (is_descriptor m.proto.ret && list_all is_descriptor m.proto.params)))

pub names_type : (text : NameNo → List ℕ) (n : Named) → IsRead text n → (t : ℕ) → t < count_at n.file type_ids → naming_fits (OfType (text (type_name n t))) ≡ true
names_type text n read t lt = rw (type_read text n read t lt) (type_fits n.file read.tables t lt)

pub names_field : (file : List ℕ) → TablesHold file → (i : ℕ) → i < count_at file field_ids → naming_fits (OfField (field_of file i)) ≡ true
names_field file tables i lt =
    let e = member_entry file field_ids i in
    let fits = field_kept file i tables.fields lt in
    and_from (field_fits (field_of file i)) (is_descriptor (type_units file e.class) && is_descriptor (type_units file e.kind)) (fields_fit file tables i lt)
    (and_from (is_descriptor (type_units file e.class)) (is_descriptor (type_units file e.kind))
    (type_fits file tables e.class fits.class) (type_fits file tables e.kind fits.kind))

proto_types : (file : List ℕ) → TablesHold file → (i : ℕ) → i < count_at file proto_ids → (is_descriptor (proto_of file i).ret && list_all is_descriptor (proto_of file i).params) ≡ true
proto_types file tables i lt =
    let e = proto_entry file i in
    let fits = proto_kept file i tables.protos lt in
    and_from (is_descriptor (type_units file e.ret)) (list_all is_descriptor (map (type_units file) (list_at file e.params)))
    (type_fits file tables e.ret fits.ret)
    (all_mapped (is_type file) is_descriptor (type_units file) (λ t k. type_fits file tables t (ltb-true t (count_at file type_ids) k))
    (list_at file e.params) (value_types file (list_at file e.params) fits.params))

pub names_method : (file : List ℕ) → TablesHold file → (i : ℕ) → i < count_at file method_ids → naming_fits (OfMethod (method_of file i)) ≡ true
names_method file tables i lt =
    let e = member_entry file method_ids i in
    let fits = method_kept file i tables.methods lt in
    and_from (method_fits (method_of file i)) _ (methods_fit file tables i lt)
    (and_from (proto_fits (proto_of file e.kind)) _ (protos_fit file tables e.kind fits.kind)
    (and_from (is_descriptor (type_units file e.class)) _ (type_fits file tables e.class fits.class) (proto_types file tables e.kind fits.kind)))
