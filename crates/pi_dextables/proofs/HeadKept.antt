-- An image breaks none of the rules on its header, X1 to X9.
use Rattle.std.proofs.Common.{◌≡◌, ℕ, ◌+◌, ◌*◌, ◌%◌, ◌≤◌, List, [], ◌∷◌, ◌++◌, length, take, drop, None, Bool, true, refl, ap, ◌∙◌, arith}
use Rattle.std.specs.Prelude.{◌==◌, ◌&&◌, ◌||◌, nat_eq, nat_le}
use Rattle.std.specs.List.{starts_with}
use Rattle.std.specs.Cmp.Lexicographic.{pointwise}
use Rattle.std.proofs.lemmas.Bool.Decides.{nat_tests}
use Rattle.sha1.specs.Sha1.{sha1}
use Rattle.byteorder.specs.Endian.{little_bytes}
use Rattle.pi_bytes.specs.Numbers.{word_at}
use Rattle.pi_bytes.specs.Sums.{adler}
use Rattle.pi_format.specs.Tables.{magic, count_at, table_at, string_ids, type_ids, proto_ids, field_ids, method_ids, class_defs, table_holds}
use Rattle.pi_format.specs.Rules.Header.{unless, broken_length, broken_magic, broken_signature, broken_tables, broken_data}
use Rattle.pi_dextables.specs.declared.tables.Tables.{Tables}
use Rattle.pi_dextables.specs.Image.{types_begin, protos_begin, fields_begin, methods_begin, classes_begin, file_end, where_some, signed, image}
use Rattle.pi_dextables.proofs.Steps.{steps}
use Rattle.pi_dextables.proofs.Laid.{Headed}
use Rattle.pi_dextables.proofs.Whole.{image_is}
use Rattle.pi_dextables.proofs.Head.{HeadSaid, ordered}

-- the file begins with the magic number
begins : (rest : List ℕ) → starts_with nat_eq (magic ++ rest) magic ≡ true
begins rest = refl

pub magic_kept : (t : Tables) → broken_magic (image t) ≡ None
magic_kept t = ap broken_magic (image_is t) ∙ ap (λ (b : Bool). unless b 0) (begins (little_bytes 4 (adler (signed t)) ++ signed t))

-- bytes are the same as themselves
same_bytes : (xs : List ℕ) → pointwise nat_eq xs xs ≡ true
same_bytes [] = refl
same_bytes (x ∷ xs) = (let rest = same_bytes xs in grind (arith, nat_tests, rest))

-- a number is as it should be
pub equal : (a b at : ℕ) → a ≡ b → unless (a == b) at ≡ None
equal a b at e = grind (arith, nat_tests)

-- a table lies behind the header in the file
table_lies : (n at width size : ℕ) → at % 4 ≡ 0 → 112 ≤ at → at + width * n ≤ size
    → ((n == 0) || ((where_some n at % 4 == 0) && nat_le 112 (where_some n at) && nat_le (where_some n at + width * n) size)) ≡ true
table_lies n at width size even from to = grind (arith, nat_tests)

table_kept : (file : List ℕ) (n at place width size : ℕ) → count_at file place ≡ n → table_at file place ≡ where_some n at → length file ≡ size
    → at % 4 ≡ 0 → 112 ≤ at → at + width * n ≤ size → table_holds file place width ≡ true
unfolding table_holds
table_kept file n at place width size count offset long even from to = rw (count, offset, long) (table_lies n at width size even from to)

no_more : (n : ℕ) → n ≤ 65535 → nat_le n 65535 ≡ true
no_more n le = grind (arith, nat_tests)

few_kept : (file : List ℕ) (n place : ℕ) → count_at file place ≡ n → n ≤ 65535 → nat_le (count_at file place) 65535 ≡ true
few_kept file n place count le = rw count (no_more n le)

pub tables_kept : (file : List ℕ) (t : Tables) → length file ≡ file_end t → length t.types ≤ 65535 → length t.protos ≤ 65535 → Headed file t → broken_tables file ≡ None
tables_kept file t long types protos h =
    let s = steps t in
    let o = ordered t in
    let a : table_holds file string_ids 4 ≡ true =
    table_kept file (length t.strings) 112 string_ids 4 (file_end t) h.strings h.strings_at long refl (omega arith) (omega arith) in
    let b : table_holds file type_ids 4 ≡ true =
    table_kept file (length t.types) (types_begin t) type_ids 4 (file_end t) h.types h.types_at long (omega arith) (omega arith) (omega arith) in
    let c : table_holds file proto_ids 12 ≡ true =
    table_kept file (length t.protos) (protos_begin t) proto_ids 12 (file_end t) h.protos h.protos_at long (omega arith) (omega arith) (omega arith) in
    let d : table_holds file field_ids 8 ≡ true =
    table_kept file (length t.fields) (fields_begin t) field_ids 8 (file_end t) h.fields h.fields_at long (omega arith) (omega arith) (omega arith) in
    let e : table_holds file method_ids 8 ≡ true =
    table_kept file (length t.methods) (methods_begin t) method_ids 8 (file_end t) h.methods h.methods_at long (omega arith) (omega arith) (omega arith) in
    let f : table_holds file class_defs 32 ≡ true =
    table_kept file (length t.classes) (classes_begin t) class_defs 32 (file_end t) h.classes h.classes_at long (omega arith) (omega arith) (omega arith) in
    let few_types : nat_le (count_at file type_ids) 65535 ≡ true = few_kept file (length t.types) type_ids h.types types in
    let few_protos : nat_le (count_at file proto_ids) 65535 ≡ true = few_kept file (length t.protos) proto_ids h.protos protos in
    rw (a, b, few_types, c, few_protos, d, e, f) refl

-- the data ends where the file does
at_most : (a b c at : ℕ) → a + b ≤ c → unless (nat_le (a + b) c) at ≡ None
at_most a b c at le = grind (arith, nat_tests)

pub data_kept : (file : List ℕ) (t : Tables) → length file ≡ file_end t → HeadSaid file t → broken_data file ≡ None
data_kept file t long head =
    let o = ordered t in
    let at = head.data_at in
    let data_length = head.data_length in
    at_most (word_at file 108) (word_at file 104) (length file) 104 (omega (arith, at, data_length, long))

long_enough : (n : ℕ) → 112 ≤ n → unless (nat_le 112 n) n ≡ None
long_enough n le = grind (arith, nat_tests)

pub length_kept : (file : List ℕ) (t : Tables) → length file ≡ file_end t → broken_length file ≡ None
length_kept file t long = (let o = ordered t in long_enough (length file) (omega arith))

pub signature_kept : (file : List ℕ) → take 20 (drop 12 file) ≡ sha1 (drop 32 file) → broken_signature file ≡ None
signature_kept file e =
    let holds : pointwise nat_eq (take 20 (drop 12 file)) (sha1 (drop 32 file)) ≡ true = rw e (same_bytes (sha1 (drop 32 file))) in
    ap (λ (b : Bool). unless b 12) holds
