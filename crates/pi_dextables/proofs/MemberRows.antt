-- The rows of a list of members that stand in a file are read again where their ids do not fall; the reader tests that they rise.
use Rattle.std.proofs.Common.{◌≡◌, ℕ, suc, ◌+◌, ◌-◌, ◌^◌, ◌<◌, ◌≤◌, List, [], ◌∷◌, length, map, Option, Some, None, Bool, true, false, refl, sym, ap, ◌∙◌, length-append, ◌++◌, arith}
use Rattle.std.specs.Prelude.{◌&&◌, All}
use Rattle.std.specs.List.{list_all}
use Rattle.std.specs.List.Sorted.{IsNonDecreasing}
use Rattle.std.proofs.lemmas.List.Elements.{All-head, All-tail}
use Rattle.pi_bytes.specs.Leb.{uleb_at}
use Rattle.pi_format.specs.declared.lists.MemberList.{MemberList}
use Rattle.pi_format.specs.Rules.Rows.{MemberRow, has_code, code_offset, counted_from, is_behind, member_row, rows_from}
use Rattle.pi_parts.specs.Lebs.{uleb_bytes}
use Rattle.pi_parts.proofs.Stands.{Stands, stands_left, stands_right}
use Rattle.pi_parts.proofs.ReadBack.{place, uleb_reads, few_uleb}
use Rattle.pi_dextables.specs.Rows.{code_bytes, row_bytes, rows_bytes}
use Rattle.pi_dextables.specs.Said.{held, ids_rise}
use Rattle.pi_dextables.proofs.Readers.{ReadsSome, ReadsIf, held_map, held_if, uleb_readable}

-- a row that a list can have: numbers of 32 bits, and no code in a list of fields
pub record RowFits (list : MemberList) (row : MemberRow) : Type 0 where
  pub id : row.id < 2 ^ 32
  pub flags : row.flags < 2 ^ 32
  pub code : row.code < 2 ^ 32
  pub none : has_code list ≡ false → row.code ≡ 0

-- rows that a list can have: their ids do not fall
pub record RowsFit (list : MemberList) (rows : List MemberRow) : Type 0 where
  pub each : All (RowFits list) rows
  pub rise : IsNonDecreasing (map (λ r. r.id) rows)
  pub few : length rows < 2 ^ 32

-- the id of a row is not below that of the row before it, and so on
abbrev Follow : Option ℕ → List MemberRow → Type 0
Follow before [] = Unit {0}
Follow before (row ∷ rows) = (counted_from before ≤ row.id) × Follow (Some row.id) rows

code_reads : (coded : Bool) (code : ℕ) → code < 2 ^ 32 → (coded ≡ false → code ≡ 0) → ReadsSome (code_offset coded) (code_bytes coded code) code
code_reads true code lt none file at s = uleb_readable code lt file at s
code_reads false code lt none file at s =
    let same : 0 ≡ code = sym (none refl) in
    let here : at ≡ at + code = omega arith in
    rw (same, ← here) refl

row_read : (list : MemberList) (before : Option ℕ) (row : MemberRow) → RowFits list row → counted_from before ≤ row.id
    → ReadsSome (member_row list before) (row_bytes list before row) row
unfolding member_row row_bytes
row_read list before row fits behind file at s =
    let d : ℕ = row.id - counted_from before in
    let a : List ℕ = uleb_bytes d in
    let b : List ℕ = uleb_bytes row.flags in
    let c : List ℕ = code_bytes (has_code list) row.code in
    let small : d < 2 ^ 32 = omega (arith, fits.id) in
    let counted : counted_from before + d ≡ row.id = omega arith in
    let s2 : Stands file (at + length a) (b ++ c) = stands_right file a (b ++ c) at (at + length a) refl s in
    let r1 : uleb_at (place file at) ≡ _ = uleb_reads d small file at (stands_left file a (b ++ c) at s) in
    let r2 : uleb_at (place file (at + length a)) ≡ _ = uleb_reads row.flags fits.flags file (at + length a) (stands_left file b c (at + length a) s2) in
    let r3 : code_offset (has_code list) (place file (at + length a + length b)) ≡ _ =
    code_reads (has_code list) row.code fits.code fits.none file (at + length a + length b) (stands_right file b c (at + length a) (at + length a + length b) refl s2) in
    let long : at + length a + length b + length c ≡ at + length (a ++ (b ++ c)) = omega (arith, length-append a (b ++ c), length-append b c) in
    rw (r1, r2, r3, counted, long) refl

-- two tests of a row and the same two of the rows behind it, joined by what they test
pub tests_crossed : (a b c d : Bool) → (a && b) && (c && d) ≡ (a && c) && (b && d)
tests_crossed true true c d = refl
tests_crossed true false true d = refl
tests_crossed true false false d = refl
tests_crossed false b c d = refl

rows_read : (holds : MemberRow → Bool) (list : MemberList) (rows : List MemberRow) (before : Option ℕ) → All (RowFits list) rows → Follow before rows
    → ReadsIf (rows_from holds list (length rows) before) (rows_bytes list before rows) (ids_rise before rows && list_all holds rows) rows
rows_read holds list [] before fit follow file at s = (let here : at ≡ at + 0 = omega arith in rw (← here) refl)
rows_read holds list (row ∷ rows) before fit follow file at s =
    let a : List ℕ = row_bytes list before row in
    let b : List ℕ = rows_bytes list (Some row.id) rows in
    let next : ℕ = at + length a in
    let behind : Bool = is_behind before row.id in
    let rise : Bool = ids_rise (Some row.id) rows in
    let rest : Bool = list_all holds rows in
    let one : member_row list before (place file at) ≡ Some (row, place file next) =
    row_read list before row (All-head (RowFits list) row rows fit) follow.0 file at (stands_left file a b at s) in
    let two : rows_from holds list (length rows) (Some row.id) (place file next) ≡ held (rise && rest) (rows, place file (next + length b)) =
    rows_read holds list rows (Some row.id) (All-tail (RowFits list) row rows fit) follow.1 file next (stands_right file a b at next refl s) in
    let long : next + length b ≡ at + length (a ++ b) = omega (arith, length-append a b) in
    rw (one, ← long)
    (held_if (behind && holds row) (rise && rest) (row ∷ rows, place file (next + length b)) _
    (held_map (rise && rest) (rows, place file (next + length b)) (rows_from holds list (length rows) (Some row.id) (place file next)) (λ others. (row ∷ others.0, others.1)) two)
    ∙ ap (λ t. held t (row ∷ rows, place file (next + length b))) (tests_crossed behind (holds row) rise rest))

-- ids that do not fall
follows_first : (rows : List MemberRow) → IsNonDecreasing (map (λ r. r.id) rows) → Follow None rows
follows_first [] rise = tt
follows_first (row ∷ rows) rise = (omega arith, follows row rows rise)
  where
    follows : (row : MemberRow) (rows : List MemberRow) → IsNonDecreasing (map (λ r. r.id) (row ∷ rows)) → Follow (Some row.id) rows
    follows row [] rise = tt
    follows row (next ∷ rows) rise = (rise 0 1 0 (omega arith) (omega arith), follows next rows (λ i j d le lt. rise (suc i) (suc j) d (omega (arith, le)) (omega (arith, lt))))

-- the rows of a list of a class
pub list_read : (holds : MemberRow → Bool) (list : MemberList) (rows : List MemberRow) → RowsFit list rows
    → ReadsIf (rows_from holds list (length rows) None) (rows_bytes list None rows) (ids_rise None rows && list_all holds rows) rows
list_read holds list rows fit = rows_read holds list rows None fit.each (follows_first rows fit.rise)

-- each row has bytes, so a list has at most as many rows as bytes
row_long : (list : MemberList) (before : Option ℕ) (row : MemberRow) → 0 < length (row_bytes list before row)
unfolding row_bytes
row_long list before row = simp length-append (omega (arith, few_uleb (row.id - counted_from before)))

pub rows_long : (list : MemberList) (before : Option ℕ) (rows : List MemberRow) → length rows ≤ length (rows_bytes list before rows)
rows_long list before [] = omega arith
rows_long list before (row ∷ rows) =
    omega (arith, row_long list before row, rows_long list (Some row.id) rows, length-append (row_bytes list before row) (rows_bytes list (Some row.id) rows))
