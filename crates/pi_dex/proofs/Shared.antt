-- The code items of methods, one method after another, and what is asked of each of them.
use Rattle.std.proofs.Common.{◌≡◌, ◌≢◌, ℕ, zero, suc, ◌+◌, ◌-◌, ◌<◌, ◌≤◌, List, [], ◌∷◌, ◌++◌, length, drop, get_or, Bool, true, false, refl, sym, ap, ◌∙◌, arith, append_assoc}
use Rattle.std.specs.Prelude.{◌==◌, if◌then◌else◌}
use Rattle.std.specs.List.{All, Contains}
use Rattle.std.proofs.Math.ListN.{drop_of_length-le}
use Rattle.std.proofs.lemmas.Bool.Decides.{nat_tests}
use Rattle.std.proofs.lemmas.List.{drop_more, append-nil}
use Rattle.std.proofs.lemmas.List.Elements.{All-contains, All-contains_itself}
use Rattle.pi_format.specs.Tables.{count_at, class_defs}
use Rattle.pi_format.specs.Rules.Rows.{MemberRow}
use Rattle.pi_format.specs.Rules.ClassData.{rows_of, methods_in}
use Rattle.pi_format.proofs.Every.{all_nothing, all_more, all_joined, all_weaker}
use Rattle.pi_dex.specs.Shared.{offsets_in, offsets_from, code_offsets, AreCodes}

-- a method with code adds its offset, and one without adds none
with_offset : (row : MemberRow) (rows : List MemberRow) → row.code ≢ 0 → offsets_in (row ∷ rows) ≡ row.code ∷ offsets_in rows
with_offset row rows some =
    let no : (row.code == 0) ≡ false = grind (arith, nat_tests) in
    ap (λ (b : Bool). if b then offsets_in rows else row.code ∷ offsets_in rows) no

without_offset : (row : MemberRow) (rows : List MemberRow) → row.code ≡ 0 → offsets_in (row ∷ rows) ≡ offsets_in rows
without_offset row rows none =
    let yes : (row.code == 0) ≡ true = grind (arith, nat_tests) in
    ap (λ (b : Bool). if b then offsets_in rows else row.code ∷ offsets_in rows) yes

rest_of : (rows : List MemberRow) (i : ℕ) (row : MemberRow) → i < length rows → row ≡ get_or rows i row → drop i rows ≡ row ∷ drop (i + 1) rows
rest_of rows i row lt is = drop_more rows i row lt ∙ ap (λ r. r ∷ drop (i + 1) rows) (sym is)

pub offset_goes : (done : List ℕ) (rows : List MemberRow) (i : ℕ) (row : MemberRow) → i < length rows → row ≡ get_or rows i row → row.code ≢ 0
    → (done ++ row.code ∷ []) ++ offsets_in (drop (i + 1) rows) ≡ done ++ offsets_in (drop i rows)
offset_goes done rows i row lt is some =
    append_assoc done (row.code ∷ []) (offsets_in (drop (i + 1) rows))
    ∙ ap (λ xs. done ++ xs) (sym (ap offsets_in (rest_of rows i row lt is) ∙ with_offset row (drop (i + 1) rows) some))

pub no_offset_goes : (done : List ℕ) (rows : List MemberRow) (i : ℕ) (row : MemberRow) → i < length rows → row ≡ get_or rows i row → row.code ≡ 0
    → done ++ offsets_in (drop (i + 1) rows) ≡ done ++ offsets_in (drop i rows)
no_offset_goes done rows i row lt is none =
    ap (λ xs. done ++ xs) (sym (ap offsets_in (rest_of rows i row lt is) ∙ without_offset row (drop (i + 1) rows) none))

pub offsets_end : (done : List ℕ) (rows : List MemberRow) (i : ℕ) → length rows ≤ i → done ++ offsets_in (drop i rows) ≡ done
offsets_end done rows i le = rw (drop_of_length-le rows le) (append-nil done)

pub offsets_join : (xs ys : List MemberRow) → offsets_in (xs ++ ys) ≡ offsets_in xs ++ offsets_in ys
offsets_join [] ys = refl
offsets_join (row ∷ xs) ys = by_code (row.code == 0) (offsets_join xs ys)
  where
    by_code : (b : Bool) → offsets_in (xs ++ ys) ≡ offsets_in xs ++ offsets_in ys → (if b then offsets_in (xs ++ ys) else row.code ∷ offsets_in (xs ++ ys))
        ≡ (if b then offsets_in xs else row.code ∷ offsets_in xs) ++ offsets_in ys
    by_code true rest = rest
    by_code false rest = ap (λ zs. row.code ∷ zs) rest

-- one class after another
pub classes_go : (file done : List ℕ) (i n : ℕ) → i < n
    → (done ++ offsets_in (methods_in (rows_of file i))) ++ offsets_from file (i + 1) (n - (i + 1)) ≡ done ++ offsets_from file i (n - i)
classes_go file done i n lt =
    let more : n - i ≡ suc (n - (i + 1)) = omega arith in
    rw more (append_assoc done (offsets_in (methods_in (rows_of file i))) (offsets_from file (i + 1) (n - (i + 1))))

pub classes_end : (file done : List ℕ) (i n : ℕ) → n ≤ i → done ++ offsets_from file i (n - i) ≡ done
classes_end file done i n le =
    let none : n - i ≡ zero = omega arith in
    rw none (append-nil done)

-- what holds of the code of each method holds of each code item
offsets_all : (P : ℕ → Type 0) (rows : List MemberRow) → All (λ (r : MemberRow). r.code ≢ 0 → P r.code) rows → All P (offsets_in rows)
offsets_all P [] each = all_nothing P
offsets_all P (row ∷ rows) each = by_code (row.code == 0) refl (offsets_all P rows (λ k d lt. each (suc k) d (omega arith)))
  where
    by_code : (b : Bool) → (row.code == 0) ≡ b → All P (offsets_in rows) → All P (if b then offsets_in rows else row.code ∷ offsets_in rows)
    by_code true e others = others
    by_code false e others =
        let some : row.code ≢ 0 = grind (arith, nat_tests) in
        all_more P row.code (offsets_in rows) (each 0 row (omega arith) some) others

from_all : (P : ℕ → Type 0) (file : List ℕ) (i n : ℕ)
    → ((k : ℕ) → i ≤ k → k < i + n → All (λ (r : MemberRow). r.code ≢ 0 → P r.code) (methods_in (rows_of file k))) → All P (offsets_from file i n)
from_all P file i zero each = all_nothing P
from_all P file i (suc n) each =
    all_joined P (offsets_in (methods_in (rows_of file i))) (offsets_from file (i + 1) n)
    (offsets_all P (methods_in (rows_of file i)) (each i (omega arith) (omega arith)))
    (from_all P file (i + 1) n (λ k low high. each k (omega arith) (omega arith)))

pub codes_all : (P : ℕ → Type 0) (file codes : List ℕ) → AreCodes file codes
    → ((i : ℕ) → i < count_at file class_defs → All (λ (r : MemberRow). r.code ≢ 0 → P r.code) (methods_in (rows_of file i))) → All P codes
codes_all P file codes are each =
    all_weaker (Contains codes) P codes
    (λ at c. All-contains P (code_offsets file) at (from_all P file 0 (count_at file class_defs) (λ k low high. each k (omega arith))) (are.had at c))
    (All-contains_itself codes)
