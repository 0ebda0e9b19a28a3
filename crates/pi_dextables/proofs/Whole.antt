-- The parts of the image stand one behind the other, and what it says of its digests.
use Rattle.std.proofs.Common.{◌≡◌, ℕ, zero, suc, ◌+◌, ◌*◌, ◌/◌, ◌%◌, ◌^◌, ◌<◌, List, [], ◌∷◌, ◌++◌, length, take, drop, map, refl, sym, ap, ◌∙◌, subst, length-append, arith}
use Rattle.std.specs.List.{flat_map}
use Rattle.std.proofs.lemmas.Bool.Decides.{nat_tests}
use Rattle.std.proofs.lemmas.List.{drop_all, append-nil, take_at}
use Rattle.byteorder.specs.Endian.{little_bytes}
use Rattle.sha1.specs.Sha1.{sha1, digest_bytes, hash_after, padded_message}
use Rattle.std.specs.Int.{w32, to_be_bytes}
use Rattle.std.specs.Prelude.{slice_index}
use Rattle.pi_bytes.specs.Numbers.{word_at}
use Rattle.pi_bytes.specs.Sums.{adler, sums_from, checksum_of}
use Rattle.pi_format.specs.Tables.{magic}
use Rattle.pi_parts.specs.Parts.{words, offsets}
use Rattle.pi_parts.proofs.Stands.{Stands, stands_whole, stands_left, stands_right, word_stands, length_words, length_offsets, length_table}
use Rattle.pi_dextables.specs.declared.tables.Class.{Class}
use Rattle.pi_dextables.specs.declared.tables.Member.{Member}
use Rattle.pi_dextables.specs.declared.tables.Proto.{Proto}
use Rattle.pi_dextables.specs.declared.tables.Tables.{Tables}
use Rattle.pi_dextables.specs.Items.{member_bytes, string_item}
use Rattle.pi_dextables.specs.Rows.{all_rows, class_data, bodies_of}
use Rattle.pi_dextables.specs.Image.{kind_counts, positive, types_begin, protos_begin, fields_begin, methods_begin, classes_begin, map_begin, lists_begin, lists_part, codes_begin, codes_part, strings_begin, strings_part, members_begin, members_part, arrays_begin, arrays_part, file_end, listed, code_offsets, MapItem, all_kinds, standing, item_bytes, map_part, proto_words, class_words, definitions, strings_table, protos_table, classes_table, tables_part, data_part, header_words, contents, signed, image}
use Rattle.pi_dextables.proofs.Steps.{steps}
use Rattle.pi_dextables.proofs.Laid.{Laid}

-- a digest has 20 bytes
length_digest : (h : List ℕ) (n : ℕ) → length (digest_bytes h n) ≡ 4 * n
unfolding digest_bytes
length_digest h zero = refl
length_digest h (suc n) =
    let rest = length_digest h n in
    let both = length-append (digest_bytes h n) (to_be_bytes w32 (slice_index h n)) in
    both ∙ (omega (arith, rest))

length_sha1 : (bytes : List ℕ) → length (sha1 bytes) ≡ 20
unfolding sha1
length_sha1 bytes = length_digest (hash_after (padded_message bytes) (length (padded_message bytes) / 64)) 5

-- the checksum is a word
sums_small : (a b : ℕ) (xs : List ℕ) → a < 65521 → b < 65521 → checksum_of (sums_from (record { a = a; b = b }) xs) < 2 ^ 32
sums_small a b [] la lb = omega (arith, la, lb)
sums_small a b (x ∷ xs) la lb = sums_small ((a + x) % 65521) ((b + (a + x) % 65521) % 65521) xs (omega arith) (omega arith)

adler_small : (xs : List ℕ) → adler xs < 2 ^ 32
unfolding adler
adler_small xs = sums_small 1 0 xs (omega arith) (omega arith)

-- how long the tables are
pub length_member : (m : Member) → length (member_bytes m) ≡ 8
unfolding member_bytes
length_member m = refl

length_members : (ms : List Member) → length (flat_map member_bytes ms) ≡ 8 * length ms
length_members ms = length_table member_bytes 8 length_member ms

length_strings : (t : Tables) → length (strings_table t) ≡ 4 * length t.strings
unfolding strings_table
length_strings t =
    length_words (offsets string_item (strings_begin t) t.strings)
    ∙ ap (λ (n : ℕ). 4 * n) (length_offsets string_item (strings_begin t) t.strings)

length_protos : (t : Tables) → length (protos_table t) ≡ 12 * length t.protos
unfolding protos_table
length_protos t = length_table (λ (p : Proto). words (proto_words t p)) 12 (λ p. refl) t.protos

length_rows : (offsets : List ℕ) (cs : List Class) → length (all_rows offsets cs) ≡ length cs
length_rows offsets [] = refl
length_rows offsets (c ∷ cs) = ap suc (length_rows (drop (length (bodies_of c)) offsets) cs)

pub length_listed : (t : Tables) → length (listed t) ≡ length t.classes
unfolding listed
length_listed t = length_rows (code_offsets t) t.classes

length_definitions : (t : Tables) (cs : List Class) (os : List ℕ) → length os ≡ length cs → length (flat_map words (definitions t cs os)) ≡ 32 * length cs
length_definitions t [] os e = refl
length_definitions t (c ∷ cs) [] e = absurd (omega (arith, e))
length_definitions t (c ∷ cs) (o ∷ os) e =
    let rest = length_definitions t cs os (omega (arith, e)) in
    let both = length-append (words (class_words t c o)) (flat_map words (definitions t cs os)) in
    both ∙ omega (arith, rest)

length_classes : (t : Tables) → length (classes_table t) ≡ 32 * length t.classes
unfolding classes_table
length_classes t =
    length_definitions t t.classes (offsets class_data (members_begin t) (listed t))
    (length_offsets class_data (members_begin t) (listed t) ∙ length_listed t)

length_standing : (items : List MapItem) → length (standing items) ≡ positive (map (λ (i : MapItem). i.count) items)
length_standing [] = refl
length_standing (i ∷ items) = (let rest = length_standing items in grind (arith, nat_tests, rest))

counts_are : (t : Tables) → map (λ (i : MapItem). i.count) (all_kinds t) ≡ kind_counts t
unfolding all_kinds
counts_are t = refl

pub length_items : (t : Tables) → length (standing (all_kinds t)) ≡ positive (kind_counts t)
length_items t = length_standing (all_kinds t) ∙ ap positive (counts_are t)

pub length_item : (i : MapItem) → length (item_bytes i) ≡ 12
unfolding item_bytes
length_item i = refl

length_map : (t : Tables) → length (map_part t) ≡ 4 + 12 * positive (kind_counts t)
unfolding map_part
length_map t =
    let count = little_bytes 4 (positive (kind_counts t)) in
    let rows = flat_map item_bytes (standing (all_kinds t)) in
    let one = length_table item_bytes 12 length_item (standing (all_kinds t)) in
    let two = length_items t in
    length-append count rows ∙ omega (arith, one, two)

length_header : (t : Tables) → length (words (header_words t)) ≡ 80
unfolding header_words
length_header t = refl

-- how the file is put together
pub image_is : (t : Tables) → image t ≡ magic ++ (little_bytes 4 (adler (signed t)) ++ signed t)
unfolding image
image_is t = refl

signed_is : (t : Tables) → signed t ≡ sha1 (contents t) ++ contents t
unfolding signed
signed_is t = refl

contents_is : (t : Tables) → contents t ≡ words (header_words t) ++ (tables_part t ++ (map_part t ++ data_part t))
unfolding contents
contents_is t = refl

tables_are : (t : Tables) → tables_part t ≡ strings_table t ++ (words t.types ++ (protos_table t ++ (flat_map member_bytes t.fields
    ++ (flat_map member_bytes t.methods ++ classes_table t))))
unfolding tables_part
tables_are t = refl

data_is : (t : Tables) → data_part t ≡ lists_part t ++ (codes_part t ++ (strings_part t ++ (members_part t ++ arrays_part t)))
unfolding data_part
data_is t = refl

same_stands : (file a b : List ℕ) (at : ℕ) → a ≡ b → Stands file at a → Stands file at b
same_stands file a b at e h = subst (λ z. Stands file at z) e h

sum_stands : (t : Tables) → Stands (image t) 8 (little_bytes 4 (adler (signed t)) ++ signed t)
sum_stands t =
    let f = image t in
    let rest = little_bytes 4 (adler (signed t)) ++ signed t in
    stands_right f magic rest 0 8 refl (same_stands f f (magic ++ rest) 0 (image_is t) (stands_whole f))

signed_stands : (t : Tables) → Stands (image t) 12 (signed t)
signed_stands t = stands_right (image t) (little_bytes 4 (adler (signed t))) (signed t) 8 12 refl (sum_stands t)

contents_stand : (t : Tables) → Stands (image t) 32 (contents t)
contents_stand t =
    let long = length_sha1 (contents t) in
    stands_right (image t) (sha1 (contents t)) (contents t) 12 32 (omega (arith, long))
    (same_stands (image t) (signed t) (sha1 (contents t) ++ contents t) 12 (signed_is t) (signed_stands t))

-- how long it is
length_tables : (t : Tables) → length (tables_part t) + 112 ≡ map_begin t
length_tables t =
    let s = steps t in
    let is = simp length-append at (ap length (tables_are t)) in
    omega (arith, is, length_strings t, length_words t.types, length_protos t, length_members t.fields, length_members t.methods, length_classes t)

length_data : (t : Tables) → length (data_part t) + lists_begin t ≡ file_end t
length_data t =
    let s = steps t in
    let is = simp length-append at (ap length (data_is t)) in
    omega (arith, is)

length_contents : (t : Tables) → length (contents t) + 32 ≡ file_end t
length_contents t =
    let s = steps t in
    let is = simp length-append at (ap length (contents_is t)) in
    omega (arith, is, length_header t, length_tables t, length_map t, length_data t)

length_signed : (t : Tables) → length (signed t) + 12 ≡ file_end t
length_signed t =
    let is = simp length-append at (ap length (signed_is t)) in
    omega (arith, is, length_sha1 (contents t), length_contents t)

pub length_image : (t : Tables) → length (image t) ≡ file_end t
length_image t =
    let is = simp length-append at (ap length (image_is t)) in
    omega (arith, is, length_signed t)

-- a part and what stands behind it
pub split : (file a b : List ℕ) (at next : ℕ) → next ≡ at + length a → Stands file at (a ++ b) → Stands file at a × Stands file next b
split file a b at next e h = (stands_left file a b at h, stands_right file a b at next e h)

-- where each part stands
pub laid : (t : Tables) → Laid (image t) t
laid t =
    let s = steps t in
    let f = image t in
    let parts = same_stands f (contents t) _ 32 (contents_is t) (contents_stand t) in
    let header = split f (words (header_words t)) _ 32 112 (omega (arith, length_header t)) parts in
    let tables = split f (tables_part t) _ 112 (map_begin t) (omega (arith, length_tables t)) header.1 in
    let map = split f (map_part t) _ (map_begin t) (lists_begin t) (omega (arith, length_map t)) tables.1 in
    let strings = split f (strings_table t) _ 112 (types_begin t) (omega (arith, length_strings t)) (same_stands f (tables_part t) _ 112 (tables_are t) tables.0) in
    let types = split f (words t.types) _ (types_begin t) (protos_begin t) (omega (arith, length_words t.types)) strings.1 in
    let protos = split f (protos_table t) _ (protos_begin t) (fields_begin t) (omega (arith, length_protos t)) types.1 in
    let fields = split f (flat_map member_bytes t.fields) _ (fields_begin t) (methods_begin t) (omega (arith, length_members t.fields)) protos.1 in
    let methods = split f (flat_map member_bytes t.methods) _ (methods_begin t) (classes_begin t) (omega (arith, length_members t.methods)) fields.1 in
    let lists = split f (lists_part t) _ (lists_begin t) (codes_begin t) s.codes (same_stands f (data_part t) _ (lists_begin t) (data_is t) map.1) in
    let codes = split f (codes_part t) _ (codes_begin t) (strings_begin t) s.strings lists.1 in
    let texts = split f (strings_part t) _ (strings_begin t) (members_begin t) s.members codes.1 in
    let members = split f (members_part t) _ (members_begin t) (arrays_begin t) s.arrays texts.1 in
    record {
      whole = length_image t;
      header = header.0;
      strings = strings.0;
      types = types.0;
      protos = protos.0;
      fields = fields.0;
      methods = methods.0;
      classes = methods.1;
      map = map.0;
      lists = lists.0;
      codes = codes.0;
      texts = texts.0;
      members = members.0;
      arrays = members.1;
    }

-- a part that stands up to the end is what is left of the file
stands_last : (file part : List ℕ) (at : ℕ) → at + length part ≡ length file → Stands file at part → drop at file ≡ part
stands_last file part at e h =
    h ∙ ap (λ z. part ++ z) (drop_all (at + length part) file (omega (arith, e))) ∙ append-nil part

-- the checksum and the signature are those of what stands behind them
pub digests : (t : Tables) → (word_at (image t) 8 ≡ adler (drop 12 (image t))) × (take 20 (drop 12 (image t)) ≡ sha1 (drop 32 (image t)))
digests t =
    let f = image t in
    let digest = little_bytes 4 (adler (signed t)) in
    let long = length_image t in
    let d12 : drop 12 f ≡ signed t = stands_last f (signed t) 12 (omega (arith, long, length_signed t)) (signed_stands t) in
    let d32 : drop 32 f ≡ contents t = stands_last f (contents t) 32 (omega (arith, long, length_contents t)) (contents_stand t) in
    let word : word_at f 8 ≡ adler (signed t) = word_stands f 8 (adler (signed t)) (stands_left f digest (signed t) 8 (sum_stands t)) (adler_small (signed t)) in
    let sum : word_at f 8 ≡ adler (drop 12 f) = word ∙ ap adler (sym d12) in
    let signature : take 20 (drop 12 f) ≡ sha1 (drop 32 f) =
    ap (take 20) (d12 ∙ signed_is t) ∙ take_at (sha1 (contents t)) (contents t) 20 (length_sha1 (contents t)) ∙ ap sha1 (sym d32) in
    (sum, signature)
