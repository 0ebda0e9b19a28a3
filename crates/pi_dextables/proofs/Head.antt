-- What the header of a file says whose parts stand where the layout says.
use Rattle.std.proofs.Common.{◌≡◌, ℕ, ◌+◌, ◌*◌, ◌-◌, ◌^◌, ◌<◌, ◌≤◌, List, length, Some, refl, arith}
use Rattle.std.specs.Prelude.{slice_get}
use Rattle.std.proofs.lemmas.Bool.Decides.{nat_tests}
use Rattle.pi_bytes.specs.Numbers.{word_at, most_bytes}
use Rattle.pi_parts.proofs.Stands.{words_read}
use Rattle.pi_dextables.specs.declared.tables.Tables.{Tables}
use Rattle.pi_dextables.specs.Image.{types_begin, protos_begin, fields_begin, methods_begin, classes_begin, map_begin, lists_begin, codes_begin, strings_begin, members_begin, arrays_begin, file_end, where_some, header_words}
use Rattle.pi_dextables.proofs.Steps.{steps}
use Rattle.pi_dextables.proofs.Laid.{Laid, Headed}

-- the places where parts begin rise
pub record Ordered (t : Tables) : Type 0 where
  pub types : 112 ≤ types_begin t
  pub protos : types_begin t ≤ protos_begin t
  pub fields : protos_begin t ≤ fields_begin t
  pub methods : fields_begin t ≤ methods_begin t
  pub classes : methods_begin t ≤ classes_begin t
  pub map : classes_begin t ≤ map_begin t
  pub lists : map_begin t + 4 ≤ lists_begin t
  pub codes : lists_begin t ≤ codes_begin t
  pub strings : codes_begin t ≤ strings_begin t
  pub members : strings_begin t ≤ members_begin t
  pub arrays : members_begin t ≤ arrays_begin t
  pub end : arrays_begin t ≤ file_end t

pub ordered : (t : Tables) → Ordered t
ordered t =
    let s = steps t in
    record {
      types = omega arith;
      protos = omega arith;
      fields = omega arith;
      methods = omega arith;
      classes = omega arith;
      map = omega arith;
      lists = omega arith;
      codes = omega arith;
      strings = omega arith;
      members = omega arith;
      arrays = omega arith;
      end = omega arith;
    }

-- the offset of a table is no larger than where it would stand
where_small : (n at : ℕ) → at < 2 ^ 32 → where_some n at < 2 ^ 32
where_small n at lt = grind (arith, nat_tests)

-- word k of the header
header_word : (file : List ℕ) (t : Tables) (k x : ℕ) → Laid file t → slice_get (header_words t) k ≡ Some x → x < 2 ^ 32 → word_at file (32 + 4 * k) ≡ x
header_word file t k x laid is lt = words_read file (header_words t) 32 k x laid.header is lt

-- the words that do not speak of tables
pub record HeadSaid (file : List ℕ) (t : Tables) : Type 0 where
  pub length : word_at file 32 ≡ file_end t
  pub size : word_at file 36 ≡ 112
  pub order : word_at file 40 ≡ 0x12345678
  pub map : word_at file 52 ≡ map_begin t
  pub data_length : word_at file 104 ≡ file_end t - map_begin t
  pub data_at : word_at file 108 ≡ map_begin t

pub head_said : (file : List ℕ) (t : Tables) → Laid file t → file_end t ≤ most_bytes → HeadSaid file t
unfolding header_words
head_said file t laid few =
    let o = ordered t in
    let map : map_begin t < 2 ^ 32 = omega arith in
    record {
      length = header_word file t 0 (file_end t) laid refl (omega arith);
      size = header_word file t 1 112 laid refl (omega arith);
      order = header_word file t 2 0x12345678 laid refl (omega arith);
      map = header_word file t 5 (map_begin t) laid refl map;
      data_length = header_word file t 18 (file_end t - map_begin t) laid refl (omega arith);
      data_at = header_word file t 19 (map_begin t) laid refl map;
    }

-- the words of the tables
pub headed : (file : List ℕ) (t : Tables) → Laid file t → file_end t ≤ most_bytes → Headed file t
unfolding header_words
headed file t laid few =
    let s = steps t in
    let o = ordered t in
    let ns = length t.strings in
    let nt = length t.types in
    let np = length t.protos in
    let nf = length t.fields in
    let nm = length t.methods in
    let nc = length t.classes in
    record {
      strings = header_word file t 6 ns laid refl (omega arith);
      strings_at = header_word file t 7 (where_some ns 112) laid refl (where_small ns 112 (omega arith));
      types = header_word file t 8 nt laid refl (omega arith);
      types_at = header_word file t 9 (where_some nt (types_begin t)) laid refl (where_small nt (types_begin t) (omega arith));
      protos = header_word file t 10 np laid refl (omega arith);
      protos_at = header_word file t 11 (where_some np (protos_begin t)) laid refl (where_small np (protos_begin t) (omega arith));
      fields = header_word file t 12 nf laid refl (omega arith);
      fields_at = header_word file t 13 (where_some nf (fields_begin t)) laid refl (where_small nf (fields_begin t) (omega arith));
      methods = header_word file t 14 nm laid refl (omega arith);
      methods_at = header_word file t 15 (where_some nm (methods_begin t)) laid refl (where_small nm (methods_begin t) (omega arith));
      classes = header_word file t 16 nc laid refl (omega arith);
      classes_at = header_word file t 17 (where_some nc (classes_begin t)) laid refl (where_small nc (classes_begin t) (omega arith));
    }
