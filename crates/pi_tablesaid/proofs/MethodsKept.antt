-- A file that says closed tables whose methods fit keeps X16.
use Rattle.std.proofs.Common.{◌≡◌, ℕ, ◌<◌, List, length, map, None, true, refl, ap, ◌∙◌}
use Rattle.std.specs.Prelude.{◌&&◌, nat_lt, All, IsTrue}
use Rattle.std.specs.List.{list_all}
use Rattle.std.specs.List.Sorted.{IsStrictlySortedBy}
use Rattle.std.proofs.lemmas.Bool.{and_parts, and_from}
use Rattle.std.proofs.lemmas.Option.{slice_get-get_or}
use Rattle.pi_format.specs.Tables.{count_at, string_ids, type_ids, proto_ids, method_ids}
use Rattle.pi_format.specs.Rules.Descriptors.{is_method_name}
use Rattle.pi_format.specs.Rules.Members.{member_entry, member_rises, method_fits as entry_fits, method_holds, broken_methods}
use Rattle.pi_format.specs.Rules.Strings.{string_units, type_units}
use Rattle.pi_dextables.specs.declared.tables.Member.{Member}
use Rattle.pi_dextables.specs.declared.tables.Tables.{Tables}
use Rattle.pi_dextables.specs.Said.{IsSaid, MemberSaid}
use Rattle.pi_dextables.specs.Writable.{IsWritable}
use Rattle.pi_contents.specs.Asked.{is_reference, method_fits}
use Rattle.pi_tablesaid.specs.Entries.{text_at, type_at, no_member, member_at, method_of}
use Rattle.pi_tablesaid.specs.Closed.{IsString, MethodCloses, member_cmp, IsClosed}
use Rattle.pi_tablesaid.proofs.TypesKept.{entries_keep, is_below, asked_at, string_is, type_is}
use Rattle.pi_tablesaid.proofs.FieldsKept.{entry_of, members_rise}

-- an entry fits where its method does
entry_holds : (file : List ℕ) (t : Tables) → IsSaid file t → All (IsString t) t.types → (m : Member) → MethodCloses t m → IsTrue (method_fits (method_of t m))
    → entry_fits file (entry_of m) ≡ true
entry_holds file t said named m closes asked =
    let parts = and_parts (is_reference (type_at t m.class)) (is_method_name (text_at t m.name)) asked in
    and_from (nat_lt m.class (count_at file type_ids)) (is_reference (type_units file m.class) && (nat_lt m.kind (count_at file proto_ids) && (nat_lt m.name (count_at file string_ids) && is_method_name (string_units file m.name))))
    (is_below m.class (count_at file type_ids) m.class (length t.types) refl said.types closes.class)
    (and_from (is_reference (type_units file m.class)) (nat_lt m.kind (count_at file proto_ids) && (nat_lt m.name (count_at file string_ids) && is_method_name (string_units file m.name)))
    (ap is_reference (type_is file t said named m.class closes.class) ∙ parts.0)
    (and_from (nat_lt m.kind (count_at file proto_ids)) (nat_lt m.name (count_at file string_ids) && is_method_name (string_units file m.name))
    (is_below m.kind (count_at file proto_ids) m.kind (length t.protos) refl said.protos closes.kind)
    (and_from (nat_lt m.name (count_at file string_ids)) (is_method_name (string_units file m.name))
    (is_below m.name (count_at file string_ids) m.name (length t.strings) refl said.strings closes.name)
    (ap is_method_name (string_is file t said m.name closes.name) ∙ parts.1))))

pub method_is : (file : List ℕ) (t : Tables) → IsSaid file t → (k : ℕ) → k < length t.methods → MemberSaid file method_ids k (member_at t.methods k)
method_is file t said k lt = said.method k (member_at t.methods k) (slice_get-get_or t.methods k no_member lt)

-- X16, of tables whose methods name what there is and rise
pub methods_hold : (file : List ℕ) (t : Tables) → IsSaid file t → All (IsString t) t.types → All (MethodCloses t) t.methods → IsStrictlySortedBy member_cmp t.methods
    → IsTrue (list_all method_fits (map (method_of t) t.methods)) → broken_methods file ≡ None
methods_hold file t said named closes rise asked = entries_keep file method_ids 8 (method_holds file) (length t.methods) said.methods holds
  where
    holds : (k : ℕ) → k < length t.methods → method_holds file k ≡ true
    holds k lt =
        and_from (entry_fits file (member_entry file method_ids k)) (member_rises file method_ids k)
        (ap (entry_fits file) (method_is file t said k lt)
        ∙ entry_holds file t said named (member_at t.methods k) (closes k no_member lt) (asked_at method_fits (method_of t) t.methods k no_member asked lt))
        (members_rise file method_ids t.methods rise (method_is file t said) k lt)

pub methods_kept : (file : List ℕ) (t : Tables) → IsSaid file t → IsWritable t → IsClosed t
    → IsTrue (list_all method_fits (map (method_of t) t.methods)) → broken_methods file ≡ None
methods_kept file t said fits closed asked = methods_hold file t said closed.types closed.methods closed.methods_rise asked
