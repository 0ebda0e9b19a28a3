-- A file that says closed tables whose prototypes fit keeps X14.
use Rattle.std.proofs.Common.{◌≡◌, ℕ, ◌<◌, List, [], ◌∷◌, length, map, get_or, sum, None, true, refl, sym, ap, ◌∙◌}
use Rattle.std.specs.Prelude.{◌&&◌, not, nat_lt, nat_le, sum_by, All, IsTrue}
use Rattle.std.specs.declared.cmp.Ordering.TheVariants.{Less}
use Rattle.std.specs.List.{list_all}
use Rattle.std.specs.List.Sorted.{IsStrictlySortedBy}
use Rattle.std.specs.Ordering.{is_lt}
use Rattle.std.proofs.lemmas.Bool.{and_parts, and_from}
use Rattle.std.proofs.lemmas.List.Elements.{All-head, All-tail}
use Rattle.std.proofs.lemmas.List.Sums.{sum-map}
use Rattle.std.proofs.lemmas.Option.{slice_get-get_or}
use Rattle.std.proofs.lemmas.Simd.{map-map}
use Rattle.std.proofs.lemmas.Slice.Eq.{bytes_eq-Decides}
use Rattle.pi_format.specs.Tables.{count_at, string_ids, type_ids, proto_ids}
use Rattle.pi_format.specs.Rules.Descriptors.{is_void, short_letter, words_of_type}
use Rattle.pi_format.specs.Rules.Entries.{list_fits, list_at}
use Rattle.pi_format.specs.Rules.Members.{ProtoEntry, proto_entry, is_value_type, params_hold, short_agrees, protos_compared, proto_rises, proto_fits as entry_fits, proto_holds, broken_protos}
use Rattle.pi_format.specs.Rules.Strings.{string_units, type_units}
use Rattle.pi_dextables.specs.declared.tables.Proto.{Proto}
use Rattle.pi_dextables.specs.declared.tables.Tables.{Tables}
use Rattle.pi_dextables.specs.Said.{IsSaid, ProtoSaid}
use Rattle.pi_dextables.specs.Writable.{IsWritable}
use Rattle.pi_contents.specs.Asked.{is_value, proto_fits}
use Rattle.pi_contents.specs.Naming.{short_form}
use Rattle.pi_tablesaid.specs.Entries.{type_at, prototype_of, no_proto}
use Rattle.pi_tablesaid.specs.Closed.{IsString, IsType, ProtoCloses, proto_cmp, IsClosed}
use Rattle.pi_tablesaid.proofs.TypesKept.{entries_keep, is_below, asked_at, each_rises, string_is, type_is}

-- a type that there is, of a value, is one of the file
pub value_is : (file : List ℕ) (t : Tables) → IsSaid file t → All (IsString t) t.types → (i : ℕ) → IsType t i → is_value (type_at t i) ≡ true
    → is_value_type file i ≡ true
value_is file t said named i lt value =
    and_from (nat_lt i (count_at file type_ids)) (not (is_void (type_units file i)))
    (is_below i (count_at file type_ids) i (length t.types) refl said.types lt)
    (ap is_value (type_is file t said named i lt) ∙ value)

values_are : (file : List ℕ) (t : Tables) → IsSaid file t → All (IsString t) t.types → (ids : List ℕ) → All (IsType t) ids
    → list_all is_value (map (type_at t) ids) ≡ true → list_all (is_value_type file) ids ≡ true
values_are file t said named [] there asked = refl
values_are file t said named (i ∷ ids) there asked =
    let parts = and_parts (is_value (type_at t i)) (list_all is_value (map (type_at t) ids)) asked in
    and_from (is_value_type file i) (list_all (is_value_type file) ids)
    (value_is file t said named i (All-head (IsType t) i ids there) parts.0)
    (values_are file t said named ids (All-tail (IsType t) i ids there) parts.1)

-- the descriptors of types that there are
first_and_rest : {A : Type 0} (x y : A) (xs ys : List A) → x ≡ y → xs ≡ ys → (x ∷ xs) ≡ (y ∷ ys)
first_and_rest x y xs ys e f = cc

pub types_are : (file : List ℕ) (t : Tables) → IsSaid file t → All (IsString t) t.types → (ids : List ℕ) → All (IsType t) ids
    → map (type_units file) ids ≡ map (type_at t) ids
types_are file t said named [] there = refl
types_are file t said named (i ∷ ids) there =
    first_and_rest (type_units file i) (type_at t i) (map (type_units file) ids) (map (type_at t) ids)
    (type_is file t said named i (All-head (IsType t) i ids there)) (types_are file t said named ids (All-tail (IsType t) i ids there))

-- a sum over what a function gives
pub sum_by-map : {A B : Type 0} (f : B → ℕ) (g : A → B) (xs : List A) → sum_by (λ x. f (g x)) xs ≡ sum_by f (map g xs)
sum_by-map f g xs = sym (sum-map (λ x. f (g x)) xs) ∙ ap sum (sym (map-map f g xs)) ∙ sum-map f (map g xs)

params_are : (file : List ℕ) (t : Tables) → IsSaid file t → All (IsString t) t.types → (ids : List ℕ) → All (IsType t) ids
    → (list_all is_value (map (type_at t) ids) && nat_le (sum_by words_of_type (map (type_at t) ids)) 255) ≡ true → params_hold file ids ≡ true
unfolding params_hold
params_are file t said named ids there asked =
    let words : sum_by (λ i. words_of_type (type_units file i)) ids ≡ sum_by words_of_type (map (type_at t) ids) =
    sum_by-map words_of_type (type_units file) ids ∙ ap (sum_by words_of_type) (types_are file t said named ids there) in
    let parts = and_parts (list_all is_value (map (type_at t) ids)) (nat_le (sum_by words_of_type (map (type_at t) ids)) 255) asked in
    and_from (list_all (is_value_type file) ids) (nat_le (sum_by (λ i. words_of_type (type_units file i)) ids) 255)
    (values_are file t said named ids there parts.0) (ap (λ (n : ℕ). nat_le n 255) words ∙ parts.1)

-- the letters of an entry are those of its prototype
letters_are : (file : List ℕ) (t : Tables) → IsSaid file t → All (IsString t) t.types → (p : Proto) → ProtoCloses t p
    → (short_letter (type_units file p.ret) ∷ map (λ i. short_letter (type_units file i)) p.params) ≡ short_form (prototype_of t p)
letters_are file t said named p closes =
    first_and_rest (short_letter (type_units file p.ret)) (short_letter (type_at t p.ret))
    (map (λ i. short_letter (type_units file i)) p.params) (map short_letter (map (type_at t) p.params))
    (ap short_letter (type_is file t said named p.ret closes.ret))
    (sym (map-map short_letter (type_units file) p.params) ∙ ap (map short_letter) (types_are file t said named p.params closes.params))

spelling_agrees : (file : List ℕ) (t : Tables) → IsSaid file t → All (IsString t) t.types → (e : ProtoEntry) (p : Proto) → ProtoCloses t p
    → e.short ≡ p.short → e.ret ≡ p.ret → list_at file e.params ≡ p.params → short_agrees file e ≡ true
unfolding short_agrees
spelling_agrees file t said named e p closes short ret params =
    let text : string_units file p.short ≡ short_form (prototype_of t p) = string_is file t said p.short closes.short ∙ closes.spelled in
    rw (short, ret, params) ((bytes_eq-Decides (short_letter (type_units file p.ret) ∷ map (λ i. short_letter (type_units file i)) p.params) (string_units file p.short)).1
    (letters_are file t said named p closes ∙ sym text))

-- an entry fits where its prototype does
entry_holds : (file : List ℕ) (t : Tables) → IsSaid file t → All (IsString t) t.types → (e : ProtoEntry) (p : Proto) → ProtoCloses t p
    → IsTrue (proto_fits (prototype_of t p)) → e.short ≡ p.short → e.ret ≡ p.ret → list_fits file e.params ≡ true → list_at file e.params ≡ p.params
    → entry_fits file e ≡ true
entry_holds file t said named e p closes asked short ret list params =
    and_from (nat_lt e.short (count_at file string_ids)) (nat_lt e.ret (count_at file type_ids) && (list_fits file e.params && (params_hold file (list_at file e.params) && short_agrees file e)))
    (is_below e.short (count_at file string_ids) p.short (length t.strings) short said.strings closes.short)
    (and_from (nat_lt e.ret (count_at file type_ids)) (list_fits file e.params && (params_hold file (list_at file e.params) && short_agrees file e))
    (is_below e.ret (count_at file type_ids) p.ret (length t.types) ret said.types closes.ret)
    (and_from (list_fits file e.params) (params_hold file (list_at file e.params) && short_agrees file e) list
    (and_from (params_hold file (list_at file e.params)) (short_agrees file e)
    (ap (params_hold file) params ∙ params_are file t said named p.params closes.params asked)
    (spelling_agrees file t said named e p closes short ret params))))

-- entries are in the order of their prototypes
order_is : (file : List ℕ) (e f : ProtoEntry) (p q : Proto) → e.ret ≡ p.ret → f.ret ≡ q.ret → list_at file e.params ≡ p.params → list_at file f.params ≡ q.params
    → protos_compared file e f ≡ proto_cmp p q
unfolding protos_compared
order_is file e f p q a b c d = rw (a, b, c, d) refl

pub proto_is : (file : List ℕ) (t : Tables) → IsSaid file t → (k : ℕ) → k < length t.protos → ProtoSaid file k (get_or t.protos k no_proto)
proto_is file t said k lt = said.proto k (get_or t.protos k no_proto) (slice_get-get_or t.protos k no_proto lt)

protos_rise : (file : List ℕ) (t : Tables) → IsSaid file t → IsStrictlySortedBy proto_cmp t.protos → (k : ℕ) → k < length t.protos → proto_rises file k ≡ true
protos_rise file t said rise =
    each_rises proto_cmp t.protos no_proto (λ j k. is_lt (protos_compared file (proto_entry file j) (proto_entry file k))) rise
    (λ j k a b less. told j k (proto_is file t said j a) (proto_is file t said k b) less)
  where
    told : (j k : ℕ) → ProtoSaid file j (get_or t.protos j no_proto) → ProtoSaid file k (get_or t.protos k no_proto)
        → proto_cmp (get_or t.protos j no_proto) (get_or t.protos k no_proto) ≡ Less → is_lt (protos_compared file (proto_entry file j) (proto_entry file k)) ≡ true
    told j k first second less =
        ap is_lt (order_is file (proto_entry file j) (proto_entry file k) (get_or t.protos j no_proto) (get_or t.protos k no_proto)
        first.ret second.ret first.params.is second.params.is ∙ less)

-- X14, of tables whose prototypes name what there is, rise, and have their short forms
pub protos_hold : (file : List ℕ) (t : Tables) → IsSaid file t → All (IsString t) t.types → All (ProtoCloses t) t.protos → IsStrictlySortedBy proto_cmp t.protos
    → IsTrue (list_all proto_fits (map (prototype_of t) t.protos)) → broken_protos file ≡ None
protos_hold file t said named closes rise asked = entries_keep file proto_ids 12 (proto_holds file) (length t.protos) said.protos holds
  where
    holds : (k : ℕ) → k < length t.protos → proto_holds file k ≡ true
    holds k lt =
        let p : ProtoSaid file k (get_or t.protos k no_proto) = proto_is file t said k lt in
        and_from (entry_fits file (proto_entry file k)) (proto_rises file k)
        (entry_holds file t said named (proto_entry file k) (get_or t.protos k no_proto) (closes k no_proto lt)
        (asked_at proto_fits (prototype_of t) t.protos k no_proto asked lt) p.short p.ret p.params.fits p.params.is)
        (protos_rise file t said rise k lt)

pub protos_kept : (file : List ℕ) (t : Tables) → IsSaid file t → IsWritable t → IsClosed t
    → IsTrue (list_all proto_fits (map (prototype_of t) t.protos)) → broken_protos file ≡ None
protos_kept file t said fits closed asked = protos_hold file t said closed.types closed.protos closed.protos_rise asked
