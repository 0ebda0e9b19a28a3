-- What the tables of prototypes, fields and methods must hold, rules X14 to X16.
use Rattle.std.specs.Prelude.{ℕ, ◌+◌, ◌-◌, ◌==◌, ◌&&◌, ◌||◌, not, nat_lt, nat_le, List, ◌∷◌, map, sum_by, Option, Bool}
use Rattle.std.specs.List.{list_all}
use Rattle.std.specs.declared.cmp.Ordering.{Ordering}
use Rattle.std.specs.Ordering.{is_lt, nat_cmp, ordering_then}
use Rattle.std.specs.Cmp.Lexicographic.{slice_cmp}
use Rattle.pi_model.specs.Texts.{same_text}
use Rattle.pi_bytes.specs.Numbers.{half_at, word_at}
use Rattle.pi_format.specs.Tables.{count_at, string_ids, type_ids, proto_ids, field_ids, method_ids}
use Rattle.pi_format.specs.Rules.Entries.{entry_at, broken_entry, list_fits, list_at}
use Rattle.pi_format.specs.Rules.Descriptors.{is_class_type, is_array_type, is_void, short_letter, words_of_type, is_member_name, is_method_name}
use Rattle.pi_format.specs.Rules.Strings.{string_units, type_units}

-- a prototype: the string of its short form, the type of its result, the offset of its parameters
pub record ProtoEntry : Type 0 where
  pub short : ℕ
  pub ret : ℕ
  pub params : ℕ

abbrev pub proto_entry : List ℕ → ℕ → ProtoEntry
proto_entry file i = record {
  short = word_at file (entry_at file proto_ids 12 i);
  ret = word_at file (entry_at file proto_ids 12 i + 4);
  params = word_at file (entry_at file proto_ids 12 i + 8);
}

-- there is a type of that number, and it is a value
abbrev pub is_value_type : List ℕ → ℕ → Bool
is_value_type file t = nat_lt t (count_at file type_ids) && not (is_void (type_units file t))

-- the parameters are types of values, with at most 255 argument words
unfoldable pub params_hold : List ℕ → List ℕ → Bool
params_hold file params =
    list_all (is_value_type file) params && nat_le (sum_by (λ t. words_of_type (type_units file t)) params) 255

-- the short form spells the result and the parameters by a letter each
unfoldable pub short_agrees : List ℕ → ProtoEntry → Bool
short_agrees file e =
    same_text (short_letter (type_units file e.ret) ∷ map (λ t. short_letter (type_units file t)) (list_at file e.params)) (string_units file e.short)

-- prototypes rise by the type of the result, then by the list of the parameters
unfoldable pub protos_compared : List ℕ → ProtoEntry → ProtoEntry → Ordering
protos_compared file e f = ordering_then (nat_cmp e.ret f.ret) (slice_cmp nat_cmp (list_at file e.params) (list_at file f.params))

abbrev pub proto_rises : List ℕ → ℕ → Bool
proto_rises file i = (i == 0) || is_lt (protos_compared file (proto_entry file (i - 1)) (proto_entry file i))

abbrev pub proto_fits : List ℕ → ProtoEntry → Bool
proto_fits file e =
    nat_lt e.short (count_at file string_ids) && (nat_lt e.ret (count_at file type_ids)
    && (list_fits file e.params && (params_hold file (list_at file e.params) && short_agrees file e)))

-- X14: prototypes fit and rise
abbrev pub proto_holds : List ℕ → ℕ → Bool
proto_holds file i = proto_fits file (proto_entry file i) && proto_rises file i

abbrev pub broken_protos : List ℕ → Option ℕ
broken_protos file = broken_entry file proto_ids 12 (proto_holds file)

-- a field or a method: its class, its type or prototype, and its name
pub record MemberEntry : Type 0 where
  pub class : ℕ
  pub kind : ℕ
  pub name : ℕ

abbrev pub member_entry : List ℕ → ℕ → ℕ → MemberEntry
member_entry file table i = record {
  class = half_at file (entry_at file table 8 i);
  kind = half_at file (entry_at file table 8 i + 2);
  name = word_at file (entry_at file table 8 i + 4);
}

-- members rise by class, then by name, then by type or prototype
abbrev pub members_compared : MemberEntry → MemberEntry → Ordering
members_compared e f = ordering_then (nat_cmp e.class f.class) (ordering_then (nat_cmp e.name f.name) (nat_cmp e.kind f.kind))

abbrev pub member_rises : List ℕ → ℕ → ℕ → Bool
member_rises file table i = (i == 0) || is_lt (members_compared (member_entry file table (i - 1)) (member_entry file table i))

abbrev pub field_fits : List ℕ → MemberEntry → Bool
field_fits file e =
    nat_lt e.class (count_at file type_ids) && (is_class_type (type_units file e.class)
    && (is_value_type file e.kind && (nat_lt e.name (count_at file string_ids) && is_member_name (string_units file e.name))))

-- X15: fields fit and rise
abbrev pub field_holds : List ℕ → ℕ → Bool
field_holds file i = field_fits file (member_entry file field_ids i) && member_rises file field_ids i

abbrev pub broken_fields : List ℕ → Option ℕ
broken_fields file = broken_entry file field_ids 8 (field_holds file)

abbrev pub method_fits : List ℕ → MemberEntry → Bool
method_fits file e =
    nat_lt e.class (count_at file type_ids) && ((is_class_type (type_units file e.class) || is_array_type (type_units file e.class))
    && (nat_lt e.kind (count_at file proto_ids) && (nat_lt e.name (count_at file string_ids) && is_method_name (string_units file e.name))))

-- X16: methods fit and rise
abbrev pub method_holds : List ℕ → ℕ → Bool
method_holds file i = method_fits file (member_entry file method_ids i) && member_rises file method_ids i

abbrev pub broken_methods : List ℕ → Option ℕ
broken_methods file = broken_entry file method_ids 8 (method_holds file)
