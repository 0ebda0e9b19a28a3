-- What the entries of types, prototypes, fields and methods say.
use Rattle.std.proofs.Common.{◌≡◌, ℕ, ◌+◌, ◌*◌, ◌<◌, ◌≤◌, ◌^◌, List, [], ◌∷◌, ◌++◌, length, Some, refl, arith}
use Rattle.std.specs.Prelude.{All, slice_get}
use Rattle.std.specs.List.{flat_map}
use Rattle.byteorder.specs.Endian.{little_bytes}
use Rattle.pi_bytes.specs.Numbers.{half_at, word_at, most_bytes}
use Rattle.pi_format.specs.Tables.{table_at, type_ids, proto_ids, field_ids, method_ids}
use Rattle.pi_format.specs.Rules.Strings.{type_string}
use Rattle.pi_parts.specs.Parts.{words}
use Rattle.pi_parts.proofs.Stands.{Stands, stands_left, stands_right, word_stands, half_stands, nth_stands, words_read}
use Rattle.pi_dextables.specs.declared.tables.Member.{Member}
use Rattle.pi_dextables.specs.declared.tables.Proto.{Proto}
use Rattle.pi_dextables.specs.declared.tables.Tables.{Tables}
use Rattle.pi_dextables.specs.Items.{member_bytes}
use Rattle.pi_dextables.specs.Image.{types_begin, protos_begin, fields_begin, methods_begin, file_end, protos_table, proto_words, where_some, list_at as layout_list_at}
use Rattle.pi_dextables.specs.Writable.{IsWord, ProtoFits, MemberFits, IsWritable}
use Rattle.pi_dextables.specs.Said.{ProtoSaid, MemberSaid}
use Rattle.pi_dextables.proofs.Laid.{Laid, Headed, table_there}
use Rattle.pi_dextables.proofs.Each.{all_got}
use Rattle.pi_dextables.proofs.Whole.{length_member}
use Rattle.pi_dextables.proofs.Pools.{kept_said, kept_low, params_kept}

-- a type
pub type_said : (file : List ℕ) (t : Tables) → Laid file t → Headed file t → IsWritable t → (i : ℕ) (string : ℕ) → slice_get t.types i ≡ Some string
    → type_string file i ≡ string
type_said file t laid headed fits i string is =
    let at = table_there file type_ids (types_begin t) t.types i string headed.types_at is in
    rw at (words_read file t.types (types_begin t) i string laid.types is (all_got IsWord t.types i string fits.types is))

-- a member of a table
member_read : (file : List ℕ) (at : ℕ) (m : Member) → MemberFits m → Stands file at (member_bytes m)
    → (half_at file at ≡ m.class) × ((half_at file (at + 2) ≡ m.kind) × (word_at file (at + 4) ≡ m.name))
unfolding member_bytes
member_read file at m fits h =
    let a = little_bytes 2 m.class in
    let b = little_bytes 2 m.kind in
    let c = little_bytes 4 m.name in
    let h2 : Stands file (at + 2) (b ++ c) = stands_right file a (b ++ c) at (at + 2) refl h in
    let h3 : Stands file (at + 4) c = stands_right file b c (at + 2) (at + 4) (omega arith) h2 in (
      half_stands file at m.class (stands_left file a (b ++ c) at h) fits.class,
      (
        half_stands file (at + 2) m.kind (stands_left file b c (at + 2) h2) fits.kind,
        word_stands file (at + 4) m.name h3 fits.name,
      ),
    )

member_said : (file : List ℕ) (table begin : ℕ) (members : List Member) (i : ℕ) (m : Member) → table_at file table ≡ where_some (length members) begin
    → Stands file begin (flat_map member_bytes members) → All MemberFits members → slice_get members i ≡ Some m → MemberSaid file table i m
member_said file table begin members i m head h fits is =
    let at = table_there file table begin members i m head is in
    let s : Stands file (begin + 8 * i) (member_bytes m) = nth_stands file member_bytes 8 length_member members begin i m h is in
    let r = member_read file (begin + 8 * i) m (all_got MemberFits members i m fits is) s in
    rw (at, r.0, r.1.0, r.1.1) refl

pub field_said : (file : List ℕ) (t : Tables) → Laid file t → Headed file t → IsWritable t → (i : ℕ) (m : Member) → slice_get t.fields i ≡ Some m
    → MemberSaid file field_ids i m
field_said file t laid headed fits i m is = member_said file field_ids (fields_begin t) t.fields i m headed.fields_at laid.fields fits.fields is

pub method_said : (file : List ℕ) (t : Tables) → Laid file t → Headed file t → IsWritable t → (i : ℕ) (m : Member) → slice_get t.methods i ≡ Some m
    → MemberSaid file method_ids i m
method_said file t laid headed fits i m is = member_said file method_ids (methods_begin t) t.methods i m headed.methods_at laid.methods fits.methods is

-- a prototype
proto_read : (file : List ℕ) (at a b c : ℕ) → Stands file at (words (a ∷ b ∷ c ∷ [])) → IsWord a → IsWord b → IsWord c
    → (word_at file at ≡ a) × ((word_at file (at + 4) ≡ b) × (word_at file (at + 8) ≡ c))
proto_read file at a b c h la lb lc =
    let xs = a ∷ b ∷ c ∷ [] in
    let e : at + 4 * 0 ≡ at = omega arith in
    let first : word_at file (at + 4 * 0) ≡ a = words_read file xs at 0 a h refl la in (
      rw e at first,
      (words_read file xs at 1 b h refl lb, words_read file xs at 2 c h refl lc),
    )

proto_stands : (file : List ℕ) (t : Tables) (i : ℕ) (p : Proto) → Laid file t → slice_get t.protos i ≡ Some p
    → Stands file (protos_begin t + 12 * i) (words (proto_words t p))
unfolding protos_table
proto_stands file t i p laid is = nth_stands file (λ (q : Proto). words (proto_words t q)) 12 (λ q. refl) t.protos (protos_begin t) i p laid.protos is

pub proto_said : (file : List ℕ) (t : Tables) → Laid file t → Headed file t → IsWritable t → file_end t ≤ most_bytes → (i : ℕ) (p : Proto)
    → slice_get t.protos i ≡ Some p → ProtoSaid file i p
proto_said file t laid headed fits few i p is =
    let at = table_there file proto_ids (protos_begin t) t.protos i p headed.protos_at is in
    let fit : ProtoFits p = all_got ProtoFits t.protos i p fits.protos is in
    let kept = params_kept t i p is in
    let ret : IsWord p.ret = (let lt : p.ret < 2 ^ 16 = fit.ret in omega (arith, lt)) in
    let r = proto_read file (protos_begin t + 12 * i) p.short p.ret (layout_list_at t p.params) (proto_stands file t i p laid is) fit.short ret (kept_low file t p.params laid few kept) in
    record {
      short = rw at r.0;
      ret = rw at r.1.0;
      params = rw (at, r.1.1) (kept_said file t p.params laid few kept fit.params);
    }
