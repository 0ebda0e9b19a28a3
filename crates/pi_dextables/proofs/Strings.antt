-- The strings of tables that a file spells are read again, and rise.
use Rattle.std.proofs.Common.{◌≡◌, ℕ, zero, suc, ◌+◌, ◌-◌, ◌*◌, ◌^◌, ◌<◌, ◌≤◌, List, [], ◌∷◌, ◌++◌, length, drop, get_or, Some, None, Result, Ok, Err, true, false, option_map, refl, ap, ◌∙◌, arith}
use Rattle.std.specs.Prelude.{◌==◌, All, is_some, slice_get}
use Rattle.std.specs.List.{flat_map}
use Rattle.std.specs.List.Sorted.{IsStrictlySortedBy}
use Rattle.std.specs.Ordering.{is_lt, nat_cmp}
use Rattle.std.specs.Cmp.Lexicographic.{slice_cmp}
use Rattle.std.specs.declared.cmp.Ordering.TheVariants.{Less}
use Rattle.std.proofs.lemmas.Bool.Decides.{nat_tests}
use Rattle.std.proofs.lemmas.Option.{slice_get-get_or}
use Rattle.std.proofs.lemmas.Map.Keys.{Less-from_sorted}
use Rattle.pi_bytes.specs.Place.{Place, place_behind}
use Rattle.pi_bytes.specs.Leb.{uleb_at, uleb_by}
use Rattle.pi_bytes.specs.Reading.{reading_at}
use Rattle.pi_bytes.specs.Mutf8.{spellings, units_at}
use Rattle.pi_bytes.specs.Numbers.{word_at, most_bytes}
use Rattle.pi_bytes.specs.declared.fault.ReadFault.{ReadFault}
use Rattle.pi_format.specs.Tables.{count_at, table_at, string_ids}
use Rattle.pi_format.specs.Rules.Entries.{first_bad, entry_at}
use Rattle.pi_format.specs.Rules.Strings.{read_text, string_text, units_in, string_units, string_rises, broken_strings, broken_string_order}
use Rattle.pi_parts.specs.Lebs.{uleb_bytes}
use Rattle.pi_parts.specs.Parts.{offsets}
use Rattle.pi_parts.proofs.Stands.{Stands, stands_left, stands_right, Found, found, words_read}
use Rattle.pi_parts.proofs.ReadBack.{place, uleb_reads, text_reads}
use Rattle.pi_dextables.specs.declared.tables.Tables.{Tables}
use Rattle.pi_dextables.specs.Items.{string_item}
use Rattle.pi_dextables.specs.Image.{members_begin, strings_begin, strings_part, strings_table, file_end}
use Rattle.pi_dextables.specs.Said.{StringSaid}
use Rattle.pi_dextables.specs.Writable.{IsHalf, IsWritable}
use Rattle.pi_dextables.proofs.Steps.{Steps, steps}
use Rattle.pi_dextables.proofs.Laid.{Laid, Headed, table_there}
use Rattle.pi_dextables.proofs.Counts.{string_long}
use Rattle.pi_dextables.proofs.Each.{all_got, none_bad}

ok_pair : (a b x n : ℕ) → a ≡ x → b ≡ n → (let r : Result (ℕ × ℕ) ReadFault = Ok (a, b) in r) ≡ Ok (x, n)
ok_pair a b x n e f = rw (e, f) refl

-- the number that is read, and how many bytes it takes
read_is : (p : Place) (r : Result (ℕ × ℕ) ReadFault) (x n : ℕ) → reading_at p r ≡ Ok (x, place_behind n p) → r ≡ Ok (x, n)
read_is p (Ok y) x n e =
    let a : ℕ × Place = (y.0, place_behind y.1 p) in
    let b : ℕ × Place = (x, place_behind n p) in
    let same : a ≡ b = cc in
    let number : y.0 ≡ x = ap (λ (z : ℕ × Place). z.0) same in
    let far : p.at + y.1 ≡ p.at + n = ap (λ (z : ℕ × Place). z.1.at) same in
    let count : y.1 ≡ n = omega (arith, far) in
    ok_pair y.0 y.1 x n number count
read_is p (Err fault) x n e = cc

uleb_there : (file : List ℕ) (at x : ℕ) → x < 2 ^ 32 → Stands file at (uleb_bytes x) → uleb_by 4 (drop at file) ≡ Ok (x, length (uleb_bytes x))
unfolding uleb_at
uleb_there file at x lt s = read_is (place file at) (uleb_by 4 (drop at file)) x (length (uleb_bytes x)) (uleb_reads x lt file at s)

text_there : (file : List ℕ) (at : ℕ) (units : List ℕ) → length units < 2 ^ 32 → All (λ u. u < 2 ^ 16) units → Stands file at (string_item units)
    → (begin : ℕ) × (read_text file at ≡ Some (record { units = units; begin = begin; size = length (spellings units) }))
unfolding string_item
text_there file at units few all s =
    let a : List ℕ = uleb_bytes (length units) in
    let b : List ℕ = spellings units ++ 0 ∷ [] in
    let begin : ℕ = at + length a in
    let one : uleb_by 4 (drop at file) ≡ Ok (length units, length a) = uleb_there file at (length units) few (stands_left file a b at s) in
    let two : units_at (length units) (drop begin file) ≡ Ok (units, length (spellings units)) =
    text_reads units file begin all (stands_right file a b at begin refl s) in
    (begin, rw (one, two) refl)

-- a string that stands in the file, by the word of its entry
record StringLies (file : List ℕ) (i : ℕ) (units : List ℕ) : Type 0 where
  offset : ℕ
  is : word_at file (entry_at file string_ids 4 i) ≡ offset
  stands : Stands file offset (string_item units)
  few : length units < 2 ^ 32

string_lies : (file : List ℕ) (t : Tables) → Laid file t → Headed file t → file_end t ≤ most_bytes
    → (i : ℕ) (units : List ℕ) → slice_get t.strings i ≡ Some units → StringLies file i units
unfolding strings_part strings_table
string_lies file t laid headed short i units e =
    let st : Steps t = steps t in
    let f : Found file string_item (strings_begin t) i units t.strings = found file string_item t.strings (strings_begin t) i units laid.texts e in
    let long : length units < length (string_item units) = string_long units in
    let end : f.offset + length (string_item units) ≤ strings_begin t + length (flat_map string_item t.strings) = f.within (omega arith) in
    let part : members_begin t ≡ strings_begin t + length (flat_map string_item t.strings) = st.members in
    let low : f.offset + length (string_item units) < 2 ^ 32 = omega (arith, end, part, st.arrays, st.end) in
    let table : table_at file string_ids ≡ 112 = table_there file string_ids 112 t.strings i units headed.strings_at e in
    let word : word_at file (112 + 4 * i) ≡ f.offset =
    words_read file (offsets string_item (strings_begin t) t.strings) 112 i f.offset laid.strings f.is (omega arith) in
    record {
      offset = f.offset;
      is = ap (λ z. word_at file (z + 4 * i)) table ∙ word;
      stands = f.there (omega arith);
      few = omega arith;
    }

said_there : (file : List ℕ) (i : ℕ) (units : List ℕ) → All (λ u. u < 2 ^ 16) units → StringLies file i units → StringSaid file i units
unfolding string_text
said_there file i units all lies =
    let text = text_there file lies.offset units lies.few all lies.stands in
    let is : string_text file i ≡ _ = ap (read_text file) lies.is ∙ text.1 in
    record { there = ap is_some is; is = ap units_in is }

pub string_said : (file : List ℕ) (t : Tables) → Laid file t → Headed file t → IsWritable t → file_end t ≤ most_bytes
    → (i : ℕ) (units : List ℕ) → slice_get t.strings i ≡ Some units → StringSaid file i units
string_said file t laid headed fits short i units e =
    said_there file i units (all_got (λ us. All IsHalf us) t.strings i units fits.strings e) (string_lies file t laid headed short i units e)

rises : (file : List ℕ) (strings : List (List ℕ)) → IsStrictlySortedBy (slice_cmp nat_cmp) strings
    → ((k : ℕ) → k < length strings → string_units file k ≡ get_or strings k []) → (k : ℕ) → k < length strings → string_rises file k ≡ true
rises file strings rise is zero lt = refl
rises file strings rise is (suc k) lt =
    let less : slice_cmp nat_cmp (get_or strings k []) (get_or strings (suc k) []) ≡ Less =
    Less-from_sorted (slice_cmp nat_cmp) strings k (suc k) [] rise (omega arith) lt in
    let before : suc k - 1 ≡ k = omega arith in
    let later : (suc k == 0) ≡ false = grind (arith, nat_tests) in
    rw (later, before, is k (omega arith), is (suc k) lt) (ap is_lt less)

pub strings_kept : (file : List ℕ) (t : Tables) → Laid file t → Headed file t → IsWritable t → file_end t ≤ most_bytes
    → (broken_strings file ≡ None) × (broken_string_order file ≡ None)
strings_kept file t laid headed fits short =
    let said : (k : ℕ) → k < length t.strings → StringSaid file k (get_or t.strings k []) =
    λ k lt. string_said file t laid headed fits short k (get_or t.strings k []) (slice_get-get_or t.strings k [] lt) in
    let texts : first_bad (λ i. is_some (string_text file i)) 0 (count_at file string_ids) ≡ None =
    rw headed.strings (none_bad (λ i. is_some (string_text file i)) (length t.strings) (λ k lt. (said k lt).there)) in
    let order : first_bad (string_rises file) 0 (count_at file string_ids) ≡ None =
    rw headed.strings (none_bad (string_rises file) (length t.strings) (rises file t.strings fits.strings_rise (λ k lt. (said k lt).is))) in
    (ap (option_map (entry_at file string_ids 4)) texts, ap (option_map (entry_at file string_ids 4)) order)
