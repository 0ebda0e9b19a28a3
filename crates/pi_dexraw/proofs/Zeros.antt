-- The 0 behind a text is the first one from its begin on.
use Rattle.std.proofs.Common.{◌≡◌, ◌≢◌, ℕ, zero, suc, ◌+◌, ◌<◌, ◌≤◌, List, [], ◌∷◌, ◌++◌, length, take, drop, get_or, Some, None, Result, Ok, Err, true, false, refl, sym, ap, ◌∙◌, arith, append_assoc, length-append}
use Rattle.std.specs.Prelude.{is_some, ◌==◌}
use Rattle.std.specs.List.{position_or_len}
use Rattle.std.proofs.Math.ListN.{drop_of_length-le}
use Rattle.std.proofs.lemmas.List.{drop_more}
use Rattle.std.proofs.lemmas.Bool.Decides.{nat_tests}
use Rattle.pi_bytes.specs.Mutf8.{spelling, spellings, units_at}
use Rattle.pi_bytes.specs.Numbers.{word_at}
use Rattle.pi_format.specs.Tables.{count_at, string_ids}
use Rattle.pi_format.specs.Rules.Entries.{entry_at}
use Rattle.pi_format.specs.Rules.Strings.{with_units, read_text, string_text, string_bytes, bytes_in, broken_strings}
use Rattle.pi_dexids.specs.Texts.{head_at}
use Rattle.pi_dexids.proofs.Heads.{text_behind, nothing}
use Rattle.pi_format.proofs.Held.{entry_holds}
use Rattle.pi_bytes.proofs.Laws.{units_spelled, units_before}

no_zero_in_one : (u : ℕ) (rest : List ℕ) → position_or_len (λ b. b == 0) (spelling u ++ rest) ≡ length (spelling u) + position_or_len (λ b. b == 0) rest
no_zero_in_one u rest = grind (arith, nat_tests)

first_zero : (us rest : List ℕ) → position_or_len (λ b. b == 0) (spellings us ++ 0 ∷ rest) ≡ length (spellings us)
first_zero [] rest = refl
first_zero (u ∷ us) rest =
    let more = first_zero us rest in
    let len = length-append (spelling u) (spellings us) in
    let one = no_zero_in_one u (spellings us ++ 0 ∷ rest) in
    let place = ap (position_or_len (λ b. b == 0)) (append_assoc (spelling u) (spellings us) (0 ∷ rest)) in
    omega (arith, more, len, one, place)

pub zero_behind : (count : ℕ) (bytes units : List ℕ) (at : ℕ) → units_at count bytes ≡ Ok (units, at) → position_or_len (λ b. b == 0) bytes ≡ at
zero_behind count bytes units at e =
    let spells = units_spelled count bytes units at e in
    ap (position_or_len (λ b. b == 0)) spells.spelt ∙ first_zero units spells.rest ∙ sym (units_before count bytes units at e)

read_bytes : (file : List ℕ) (begin count : ℕ) (r : Result (List ℕ × ℕ) ℕ) → units_at count (drop begin file) ≡ r → is_some (with_units begin r) ≡ true
    → bytes_in file (with_units begin r) ≡ take (position_or_len (λ b. b == 0) (drop begin file)) (drop begin file)
read_bytes file begin count (Ok x) e some =
    ap (λ (n : ℕ). take n (drop begin file)) (sym (zero_behind count (drop begin file) x.0 x.1 e))
read_bytes file begin count (Err at) e some = cc

pub bytes_are : (file : List ℕ) (i count begin : ℕ) → broken_strings file ≡ None → i < count_at file string_ids
    → head_at file (word_at file (entry_at file string_ids 4 i)) ≡ Some (count, begin)
    → string_bytes file i ≡ take (position_or_len (λ b. b == 0) (drop begin file)) (drop begin file)
unfolding string_text
bytes_are file i count begin none lt e =
    let at = word_at file (entry_at file string_ids 4 i) in
    let is = text_behind file at count begin e in
    let some : is_some (read_text file at) ≡ true = entry_holds file string_ids 4 (λ k. is_some (string_text file k)) none i lt in
    ap (bytes_in file) is ∙ read_bytes file begin count (units_at count (drop begin file)) refl (ap is_some (sym is) ∙ some)

pub no_bytes : (file : List ℕ) (i : ℕ) → head_at file (word_at file (entry_at file string_ids 4 i)) ≡ None → string_bytes file i ≡ []
unfolding string_text
no_bytes file i e = ap (bytes_in file) (nothing file (word_at file (entry_at file string_ids 4 i)) e)

-- the search for a 0, byte by byte
pub zero_stops : (bytes : List ℕ) (i : ℕ) → i < length bytes → get_or bytes i 0 ≡ 0 → position_or_len (λ b. b == 0) (drop i bytes) ≡ 0
zero_stops bytes i lt e = rw (drop_more bytes i 0 lt, e) refl

pub zero_goes : (bytes : List ℕ) (i : ℕ) → i < length bytes → get_or bytes i 0 ≢ 0
    → position_or_len (λ b. b == 0) (drop i bytes) ≡ 1 + position_or_len (λ b. b == 0) (drop (i + 1) bytes)
zero_goes bytes i lt e =
    let no : (get_or bytes i 0 == 0) ≡ false = grind (arith, nat_tests) in
    rw (drop_more bytes i 0 lt, no) refl

pub zero_ends : (bytes : List ℕ) (i : ℕ) → length bytes ≤ i → position_or_len (λ b. b == 0) (drop i bytes) ≡ 0
zero_ends bytes i le = rw (drop_of_length-le bytes le) refl

pub all_taken : (bytes : List ℕ) (n : ℕ) → length bytes ≤ n → take n bytes ≡ bytes
all_taken [] zero le = refl
all_taken [] (suc n) le = refl
all_taken (x ∷ xs) zero le = absurd (omega arith)
all_taken (x ∷ xs) (suc n) le = ap (λ ys. x ∷ ys) (all_taken xs n (omega arith))
