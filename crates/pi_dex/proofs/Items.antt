-- What X20 asks of code items alone, and of the methods that have them.
use Rattle.std.proofs.Common.{◌≡◌, ℕ, zero, suc, ◌+◌, ◌<◌, ◌≤◌, List, [], ◌∷◌, length, drop, get_or, Option, Some, None, Bool, true, false, refl, sym, ap, ◌∙◌, arith}
use Rattle.std.specs.Prelude.{◌==◌, ◌&&◌, ◌||◌, not, is_some, if◌then◌else◌}
use Rattle.std.specs.List.{All}
use Rattle.std.specs.List.Sorted.{IsStrictlyIncreasing}
use Rattle.std.proofs.Math.ListN.{drop_of_length-le}
use Rattle.std.proofs.lemmas.Bool.Decides.{nat_tests}
use Rattle.std.proofs.lemmas.List.{get_or-drop, length-drop}
use Rattle.std.proofs.lemmas.List.Kept.{AllPairs-from_increasing}
use Rattle.pi_format.specs.Tables.{count_at, class_defs}
use Rattle.pi_format.specs.Rules.Header.{unless}
use Rattle.pi_format.specs.Rules.Lowest.{lower, lowest_from, lowest_of}
use Rattle.pi_format.specs.Rules.Rows.{MemberRow}
use Rattle.pi_format.specs.Rules.ClassData.{rows_of, methods_in}
use Rattle.pi_format.specs.Rules.CodeItems.{of_code, code_lies, code_holds, argument_words, lowest_in_code, broken_code}
use Rattle.pi_codeitem.specs.Shared.{item_bytes, takes_words}
use Rattle.pi_dex.specs.Judged.{code_place}
use Rattle.pi_dex.specs.Shared.{offsets_in, offsets_from, code_offsets, AreCodes, item_place, words_place, lowest_words}
use Rattle.pi_format.proofs.Loops.{lower_assoc}
use Rattle.pi_dex.proofs.Lowest.{same_default, of_append, drop_at, of_both, from_both, of_same, from_same, same_lowest}

-- the lowest place of methods by their code items is that of these
in_rows : (place : ℕ → Option ℕ) (rows : List MemberRow)
    → lowest_of (of_code (λ (row : MemberRow). place row.code)) rows ≡ lowest_of place (offsets_in rows)
in_rows place [] = refl
in_rows place (row ∷ rows) = by_code (row.code == 0) (in_rows place rows)
  where
    by_code : (b : Bool) → lowest_of (of_code (λ (r : MemberRow). place r.code)) rows ≡ lowest_of place (offsets_in rows)
        → lower (if b then None else place row.code) (lowest_of (of_code (λ (r : MemberRow). place r.code)) rows)
        ≡ lowest_of place (if b then offsets_in rows else row.code ∷ offsets_in rows)
    by_code true rest = rest
    by_code false rest = ap (lower (place row.code)) rest

in_classes : (place : ℕ → Option ℕ) (file : List ℕ) (i n : ℕ)
    → lowest_from (λ k. lowest_of (of_code (λ (row : MemberRow). place row.code)) (methods_in (rows_of file k))) i n ≡ lowest_of place (offsets_from file i n)
in_classes place file i zero = refl
in_classes place file i (suc n) =
    rw (in_rows place (methods_in (rows_of file i)), in_classes place file (i + 1) n)
    (sym (of_append place (offsets_in (methods_in (rows_of file i))) (offsets_from file (i + 1) n)))

pub in_codes : (place : ℕ → Option ℕ) (file codes : List ℕ) → AreCodes file codes
    → lowest_of place codes ≡ lowest_in_code file (λ (row : MemberRow). place row.code)
in_codes place file codes are =
    same_lowest place codes (code_offsets file) are.had are.all ∙ sym (in_classes place file 0 (count_at file class_defs))

-- a code item that holds, and the first that does not, which is the lowest
place_if : (file : List ℕ) (at : ℕ) (o : Option ℕ) → item_bytes file at ≡ o → item_place file at ≡ unless (is_some o) at
place_if file at o e = ap (λ (o : Option ℕ). unless (is_some o) at) e

pub item_goes : (file codes : List ℕ) (i at bytes : ℕ) → i < length codes → at ≡ get_or codes i at → item_bytes file at ≡ Some bytes
    → lowest_of (item_place file) (drop (i + 1) codes) ≡ lowest_of (item_place file) (drop i codes)
item_goes file codes i at bytes lt is e =
    sym (ap (lowest_of (item_place file)) (drop_at codes i at lt is)
    ∙ ap (λ o. lower o (lowest_of (item_place file) (drop (i + 1) codes))) (place_if file at (Some bytes) e))

no_lower : (at y : ℕ) (b : Bool) → at ≤ y → lower (Some at) (unless b y) ≡ Some at
no_lower at y true le = refl
no_lower at y false le = grind (arith, nat_tests, le)

stays_lowest : (file : List ℕ) (at : ℕ) (ys : List ℕ) → All (λ y. at ≤ y) ys → lower (Some at) (lowest_of (item_place file) ys) ≡ Some at
stays_lowest file at [] above = refl
stays_lowest file at (y ∷ ys) above =
    sym (lower_assoc (Some at) (item_place file y) (lowest_of (item_place file) ys))
    ∙ ap (λ o. lower o (lowest_of (item_place file) ys)) (no_lower at y (is_some (item_bytes file y)) (above 0 at (omega arith)))
    ∙ stays_lowest file at ys (λ k d lt. above (suc k) d (omega arith))

later : (codes : List ℕ) (i at : ℕ) → IsStrictlyIncreasing codes → i < length codes → at ≡ get_or codes i at → All (λ y. at ≤ y) (drop (i + 1) codes)
later codes i at rise lt is k d l =
    let inside : i + 1 + k < length codes = omega (arith, l, length-drop (i + 1) codes) in
    let below : get_or codes i at < get_or codes (i + 1 + k) at = AllPairs-from_increasing codes rise i (i + 1 + k) at (omega arith) inside in
    omega (arith, below, is, get_or-drop (i + 1) codes k d, same_default codes (i + 1 + k) d at inside)

pub item_stops : (file codes : List ℕ) (i : ℕ) → IsStrictlyIncreasing codes → i < length codes → item_bytes file (get_or codes i 0) ≡ None
    → Some (get_or codes i 0) ≡ lowest_of (item_place file) (drop i codes)
item_stops file codes i rise lt e =
    let at = get_or codes i 0 in
    let is : at ≡ get_or codes i at = same_default codes i 0 at lt in
    sym (ap (lowest_of (item_place file)) (drop_at codes i at lt is)
    ∙ ap (λ o. lower o (lowest_of (item_place file) (drop (i + 1) codes))) (place_if file at None e)
    ∙ stays_lowest file at (drop (i + 1) codes) (later codes i at rise lt is))

pub items_done : (file codes : List ℕ) (i : ℕ) → length codes ≤ i → lowest_of (item_place file) (drop i codes) ≡ None
items_done file codes i le = rw (drop_of_length-le codes le) refl

-- the lowest place of the methods of a class
abbrev pub class_place : (List ℕ → MemberRow → Option ℕ) → List ℕ → ℕ → Option ℕ
class_place place file k = lowest_of (place file) (methods_in (rows_of file k))

-- X20 by its two parts
abbrev pub PartsLaw : Type 0
PartsLaw = (file : List ℕ) (words at : ℕ) → code_holds file words at ≡ (is_some (item_bytes file at) && takes_words file words at)

lower_same : (at : ℕ) → lower (Some at) (Some at) ≡ Some at
lower_same at = grind (arith, nat_tests)

by_parts : (item lies takes : Bool) (at : ℕ) → (item ≡ true → lies ≡ true)
    → unless (item && takes) at ≡ lower (unless item at) (unless (not lies || takes) at)
by_parts true lies true at only = by_lies lies
  where
    by_lies : (b : Bool) → None ≡ unless (not b || true) at
    by_lies true = refl
    by_lies false = refl
by_parts true true false at only = refl
by_parts true false false at only = absurd (no (only refl))
  where
    no : false ≡ true → ⊥
    no e = cc
by_parts false true true at only = refl
by_parts false true false at only = sym (lower_same at)
by_parts false false takes at only = refl

row_by_parts : PartsLaw → (file : List ℕ) (lie : (at : ℕ) → is_some (item_bytes file at) ≡ true → code_lies file at ≡ true) (row : MemberRow)
    → code_place file row ≡ lower (of_code (λ (r : MemberRow). item_place file r.code) row) (words_place file row)
row_by_parts law file lie row = by_code (row.code == 0)
  where
    words : ℕ
    words = argument_words file row

    by_code : (b : Bool) → (if b then None else unless (code_holds file words row.code) row.code)
        ≡ lower (if b then None else item_place file row.code) (if b then None else unless (not (code_lies file row.code) || takes_words file words row.code) row.code)
    by_code true = refl
    by_code false =
        ap (λ b. unless b row.code) (law file words row.code)
        ∙ by_parts (is_some (item_bytes file row.code)) (code_lies file row.code) (takes_words file words row.code) row.code (lie row.code)

pub code_by_parts : PartsLaw → (file codes : List ℕ) → ((at : ℕ) → is_some (item_bytes file at) ≡ true → code_lies file at ≡ true) → AreCodes file codes
    → lower (lowest_of (item_place file) codes) (lowest_words file) ≡ broken_code file
code_by_parts law file codes lie are =
    let items : MemberRow → Option ℕ = of_code (λ (r : MemberRow). item_place file r.code) in
    ap (λ o. lower o (lowest_words file)) (in_codes (item_place file) file codes are)
    ∙ sym (from_both (λ k. lowest_of items (methods_in (rows_of file k))) (λ k. lowest_of (words_place file) (methods_in (rows_of file k))) 0 (count_at file class_defs))
    ∙ from_same (λ k. lower (lowest_of items (methods_in (rows_of file k))) (lowest_of (words_place file) (methods_in (rows_of file k))))
    (λ k. lowest_of (code_place file) (methods_in (rows_of file k)))
    (λ k. sym (of_both items (words_place file) (methods_in (rows_of file k)))
    ∙ of_same (λ r. lower (items r) (words_place file r)) (code_place file) (λ r. sym (row_by_parts law file lie r)) (methods_in (rows_of file k)))
    0 (count_at file class_defs)

pub items_lie : (file : List ℕ) (at : ℕ) → is_some (item_bytes file at) ≡ true → code_lies file at ≡ true
unfolding item_bytes
items_lie file at e = by_test (code_lies file at) _ _ e
  where
    by_test : (b c : Bool) (o : Option ℕ) → is_some (if b && c then o else None) ≡ true → b ≡ true
    by_test true c o e = refl
    by_test false c o e = cc
