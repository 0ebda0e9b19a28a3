-- The texts of what tables name: those of the names that a file which says them brings.
use Rattle.std.proofs.Common.{◌≡◌, ℕ, ◌<◌, List, [], ◌∷◌, length, map, get_or, Some, refl, ap, ◌∙◌, arith}
use Rattle.std.specs.Prelude.{slice_get, unwrap_or}
use Rattle.std.specs.List.{All}
use Rattle.std.proofs.lemmas.Option.{slice_get-get_or}
use Rattle.pi_model.specs.declared.numbers.NameNo.{NameNo}
use Rattle.pi_model.specs.Program.{Program}
use Rattle.pi_format.specs.Tables.{count_at, string_ids, field_ids, method_ids}
use Rattle.pi_format.specs.Rules.Strings.{string_units}
use Rattle.pi_format.specs.Rules.Members.{MemberEntry, member_entry}
use Rattle.pi_format.specs.Says.{named_file, with_said}
use Rattle.pi_format.specs.Says.Names.{Named, string_name, type_name, type_names, param_names, ret_name, field_ref, method_ref}
use Rattle.pi_format.proofs.Every.{all_first, all_rest}
use Rattle.pi_said.proofs.Names.{string_said}
use Rattle.pi_dextables.specs.declared.tables.Member.{Member}
use Rattle.pi_dextables.specs.declared.tables.Proto.{Proto}
use Rattle.pi_dextables.specs.declared.tables.Tables.{Tables}
use Rattle.pi_dextables.specs.Said.{ProtoSaid, IsSaid}
use Rattle.pi_contents.specs.Named.{text_in, field_name, prototype, method_name}
use Rattle.pi_tablesaid.specs.Entries.{text_at, type_at, no_proto, prototype_at, no_member, member_at, field_at, method_at}
use Rattle.pi_tablesaid.specs.Closed.{IsString, IsType, ProtoCloses, FieldCloses, MethodCloses}
use Rattle.pi_tablesaid.proofs.TypesKept.{string_is, type_string_is}

-- a file says tables whose entries name entries that there are, and its strings have names with their texts
pub record Speaks (t : Tables) (n : Named) (text : NameNo → List ℕ) : Type 0 where
  pub says : IsSaid n.file t
  pub types : All (IsString t) t.types
  pub protos : All (ProtoCloses t) t.protos
  pub fields : All (FieldCloses t) t.fields
  pub methods : All (MethodCloses t) t.methods
  pub string : (i : ℕ) → i < length t.strings → text (string_name n i) ≡ text_at t i

-- what is there, has its text
there_text : (names : List (List ℕ)) (i : ℕ) (units : List ℕ) → slice_get names i ≡ Some units → unwrap_or (slice_get names i) [] ≡ units
there_text names i units e = rw e refl

-- the text of a string of a file behind any program
pub string_text : (p : Program) (file : List ℕ) (t : Tables) → IsSaid file t → (i : ℕ) → i < length t.strings
    → text_in (with_said p file) (string_name (named_file p file) i) ≡ text_at t i
unfolding with_said
string_text p file t says i lt =
    let below : i < count_at file string_ids = omega (arith, says.strings) in
    there_text (with_said p file).names (string_name (named_file p file) i).0 (string_units file i) (string_said p.names file i below)
    ∙ string_is file t says i lt

module _ (t : Tables) (n : Named) (text : NameNo → List ℕ) (s : Speaks t n text) where
  -- types
  pub type_text : (i : ℕ) → i < length t.types → text (type_name n i) ≡ type_at t i
  type_text i lt =
      ap (λ (k : ℕ). text (string_name n k)) (type_string_is n.file t s.says i lt)
      ∙ s.string (get_or t.types i 0) (s.types i 0 lt)

  pub types_text : (is : List ℕ) → All (IsType t) is → map text (type_names n is) ≡ map (type_at t) is
  types_text [] all = refl
  types_text (i ∷ is) all = rw (type_text i (all_first (IsType t) i is all), types_text is (all_rest (IsType t) i is all)) refl

  -- prototypes
  pub proto_text : (i : ℕ) → i < length t.protos → prototype text (param_names n i) (ret_name n i) ≡ prototype_at t i
  proto_text i lt =
      let p : Proto = get_or t.protos i no_proto in
      let said : ProtoSaid n.file i p = s.says.proto i p (slice_get-get_or t.protos i no_proto lt) in
      let closes : ProtoCloses t p = s.protos i no_proto lt in
      rw (said.ret, said.params.is, type_text p.ret closes.ret, types_text p.params closes.params) refl

  -- fields
  pub field_text : (i : ℕ) → i < length t.fields → field_name text (field_ref n i) ≡ field_at t i
  field_text i lt =
      let m : Member = member_at t.fields i in
      let said : member_entry n.file field_ids i ≡ record { class = m.class; kind = m.kind; name = m.name } =
      s.says.field i m (slice_get-get_or t.fields i no_member lt) in
      let closes : FieldCloses t m = s.fields i no_member lt in
      rw (ap (λ (e : MemberEntry). e.class) said, ap (λ (e : MemberEntry). e.kind) said, ap (λ (e : MemberEntry). e.name) said)
      (rw (type_text m.class closes.class, s.string m.name closes.name, type_text m.kind closes.kind) refl)

  -- methods
  pub method_text : (i : ℕ) → i < length t.methods → method_name text (method_ref n i) ≡ method_at t i
  method_text i lt =
      let m : Member = member_at t.methods i in
      let said : member_entry n.file method_ids i ≡ record { class = m.class; kind = m.kind; name = m.name } =
      s.says.method i m (slice_get-get_or t.methods i no_member lt) in
      let closes : MethodCloses t m = s.methods i no_member lt in
      rw (ap (λ (e : MemberEntry). e.class) said, ap (λ (e : MemberEntry). e.kind) said, ap (λ (e : MemberEntry). e.name) said)
      (rw (type_text m.class closes.class, s.string m.name closes.name, proto_text m.kind closes.kind) refl)
