-- A file that says closed tables whose fields fit keeps X15. In which order its members stand.
use Rattle.std.proofs.Common.{◌≡◌, ℕ, ◌<◌, List, length, map, None, true, refl, ap, ◌∙◌}
use Rattle.std.specs.Prelude.{◌&&◌, nat_lt, All, IsTrue}
use Rattle.std.specs.List.{list_all}
use Rattle.std.specs.List.Sorted.{IsStrictlySortedBy}
use Rattle.std.specs.Ordering.{is_lt}
use Rattle.std.proofs.lemmas.Bool.{and_parts, and_from}
use Rattle.std.proofs.lemmas.Option.{slice_get-get_or}
use Rattle.pi_format.specs.Tables.{count_at, string_ids, type_ids, field_ids}
use Rattle.pi_format.specs.Rules.Descriptors.{is_class_type, is_member_name}
use Rattle.pi_format.specs.Rules.Members.{MemberEntry, member_entry, members_compared, member_rises, is_value_type, field_fits as entry_fits, field_holds, broken_fields}
use Rattle.pi_format.specs.Rules.Strings.{string_units, type_units}
use Rattle.pi_dextables.specs.declared.tables.Member.{Member}
use Rattle.pi_dextables.specs.declared.tables.Tables.{Tables}
use Rattle.pi_dextables.specs.Said.{IsSaid, MemberSaid}
use Rattle.pi_dextables.specs.Writable.{IsWritable}
use Rattle.pi_contents.specs.Asked.{is_value, field_fits}
use Rattle.pi_tablesaid.specs.Entries.{text_at, type_at, no_member, member_at, field_of}
use Rattle.pi_tablesaid.specs.Closed.{IsString, FieldCloses, member_cmp, IsClosed}
use Rattle.pi_tablesaid.proofs.TypesKept.{entries_keep, is_below, asked_at, each_rises, string_is, type_is}
use Rattle.pi_tablesaid.proofs.ProtosKept.{value_is}

-- the entry of a member
abbrev pub entry_of : Member → MemberEntry
entry_of m = record { class = m.class; kind = m.kind; name = m.name }

-- entries are in the order of their members
order_is : (e f : MemberEntry) (m n : Member) → e ≡ entry_of m → f ≡ entry_of n → members_compared e f ≡ member_cmp m n
order_is e f m n a b = rw (a, b) refl

pub members_rise : (file : List ℕ) (table : ℕ) (ms : List Member) → IsStrictlySortedBy member_cmp ms
    → ((k : ℕ) → k < length ms → MemberSaid file table k (member_at ms k)) → (k : ℕ) → k < length ms → member_rises file table k ≡ true
members_rise file table ms rise said =
    each_rises member_cmp ms no_member (λ j k. is_lt (members_compared (member_entry file table j) (member_entry file table k))) rise
    (λ j k a b less. ap is_lt (order_is (member_entry file table j) (member_entry file table k) (member_at ms j) (member_at ms k) (said j a) (said k b) ∙ less))

-- an entry fits where its field does
entry_holds : (file : List ℕ) (t : Tables) → IsSaid file t → All (IsString t) t.types → (m : Member) → FieldCloses t m → IsTrue (field_fits (field_of t m))
    → entry_fits file (entry_of m) ≡ true
entry_holds file t said named m closes asked =
    let class = and_parts (is_class_type (type_at t m.class)) (is_value (type_at t m.kind) && is_member_name (text_at t m.name)) asked in
    let kind = and_parts (is_value (type_at t m.kind)) (is_member_name (text_at t m.name)) class.1 in
    and_from (nat_lt m.class (count_at file type_ids)) (is_class_type (type_units file m.class) && (is_value_type file m.kind && (nat_lt m.name (count_at file string_ids) && is_member_name (string_units file m.name))))
    (is_below m.class (count_at file type_ids) m.class (length t.types) refl said.types closes.class)
    (and_from (is_class_type (type_units file m.class)) (is_value_type file m.kind && (nat_lt m.name (count_at file string_ids) && is_member_name (string_units file m.name)))
    (ap is_class_type (type_is file t said named m.class closes.class) ∙ class.0)
    (and_from (is_value_type file m.kind) (nat_lt m.name (count_at file string_ids) && is_member_name (string_units file m.name))
    (value_is file t said named m.kind closes.kind kind.0)
    (and_from (nat_lt m.name (count_at file string_ids)) (is_member_name (string_units file m.name))
    (is_below m.name (count_at file string_ids) m.name (length t.strings) refl said.strings closes.name)
    (ap is_member_name (string_is file t said m.name closes.name) ∙ kind.1))))

pub field_is : (file : List ℕ) (t : Tables) → IsSaid file t → (k : ℕ) → k < length t.fields → MemberSaid file field_ids k (member_at t.fields k)
field_is file t said k lt = said.field k (member_at t.fields k) (slice_get-get_or t.fields k no_member lt)

-- X15, of tables whose fields name what there is and rise
pub fields_hold : (file : List ℕ) (t : Tables) → IsSaid file t → All (IsString t) t.types → All (FieldCloses t) t.fields → IsStrictlySortedBy member_cmp t.fields
    → IsTrue (list_all field_fits (map (field_of t) t.fields)) → broken_fields file ≡ None
fields_hold file t said named closes rise asked = entries_keep file field_ids 8 (field_holds file) (length t.fields) said.fields holds
  where
    holds : (k : ℕ) → k < length t.fields → field_holds file k ≡ true
    holds k lt =
        and_from (entry_fits file (member_entry file field_ids k)) (member_rises file field_ids k)
        (ap (entry_fits file) (field_is file t said k lt)
        ∙ entry_holds file t said named (member_at t.fields k) (closes k no_member lt) (asked_at field_fits (field_of t) t.fields k no_member asked lt))
        (members_rise file field_ids t.fields rise (field_is file t said) k lt)

pub fields_kept : (file : List ℕ) (t : Tables) → IsSaid file t → IsWritable t → IsClosed t
    → IsTrue (list_all field_fits (map (field_of t) t.fields)) → broken_fields file ≡ None
fields_kept file t said fits closed asked = fields_hold file t said closed.types closed.fields closed.fields_rise asked
