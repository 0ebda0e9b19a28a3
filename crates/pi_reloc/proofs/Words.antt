-- Words as four bytes, and marked words that are moved one after another.
use Rattle.std.proofs.Common.{◌≡◌, ℕ, ◌+◌, ◌*◌, ◌/◌, ◌<◌, ◌≤◌, ℤ, pos, ◌+ℤ◌, ◌-◌, Bool, true, false, List, [], ◌++◌, length, get_or, take, drop, slice_get, unwrap_or, Some, inl, inr, arith, refl, sym, ap, ◌∙◌}
use Rattle.std.proofs.lemmas.Bool.{cases_eq, cases_lt}
use Rattle.std.proofs.lemmas.List.{get_or-drop, get_or-take, get_or_append_left, get_or-append_right, take_rest, drop_all, drop-drop, append-nil, length-drop, length-take-le}
use Rattle.std.proofs.lemmas.Option.{slice_get-get_or, slice_get_past, unwrap_or-slice_get}
use Rattle.std.proofs.lemmas.Int.{ints}
use borrow.Rule.Slice.PartMut.{put_mid}
use Rattle.pi_reloc.specs.Patch.{IsMarked, Leaves, Stays, word_at}

byte_same : (xs ys : List ℕ) (b : ℕ) → slice_get xs b ≡ slice_get ys b → get_or xs b 0 ≡ get_or ys b 0
byte_same xs ys b e = sym (unwrap_or-slice_get xs b 0) ∙ ap (λ o. unwrap_or o 0) e ∙ unwrap_or-slice_get ys b 0

word_bytes : (xs : List ℕ) (k : ℕ) → word_at xs k ≡ get_or xs (4 * k + 0) 0 + 256 * (get_or xs (4 * k + 1) 0 + 256 * (get_or xs (4 * k + 2) 0 + 256 * (get_or xs (4 * k + 3) 0 + 256 * 0)))
word_bytes xs k = rw (← get_or-drop (4 * k) xs 0 0, ← get_or-drop (4 * k) xs 1 0, ← get_or-drop (4 * k) xs 2 0, ← get_or-drop (4 * k) xs 3 0) refl

-- a word is its four bytes
pub word_same : (xs ys : List ℕ) (k : ℕ) → ((b : ℕ) → b / 4 ≡ k → slice_get xs b ≡ slice_get ys b) → word_at xs k ≡ word_at ys k
word_same xs ys k same =
    let first = byte_same xs ys (4 * k + 0) (same (4 * k + 0) (omega arith)) in
    let second = byte_same xs ys (4 * k + 1) (same (4 * k + 1) (omega arith)) in
    let third = byte_same xs ys (4 * k + 2) (same (4 * k + 2) (omega arith)) in
    let fourth = byte_same xs ys (4 * k + 3) (same (4 * k + 3) (omega arith)) in
    word_bytes xs k ∙ rw (first, second, third, fourth) (sym (word_bytes ys k))

-- a write of four bytes leaves the others
same_get : (xs ys : List ℕ) (b : ℕ) → length xs ≡ length ys → get_or xs b 0 ≡ get_or ys b 0 → slice_get xs b ≡ slice_get ys b
same_get xs ys b long same =
    elim (cases_lt b (length xs)) [
      | inl lt ↦ slice_get-get_or xs b 0 lt ∙ ap (λ v. Some v) same ∙ sym (slice_get-get_or ys b 0 (omega arith))
      | inr le ↦ slice_get_past xs b le ∙ sym (slice_get_past ys b (omega arith))
    ]

written_is : (xs four : List ℕ) (at : ℕ) → put_mid at (length xs - at) xs (four ++ drop 4 (take (length xs - at) (drop at xs))) ≡ take at xs ++ (four ++ drop (at + 4) xs)
written_is xs four at =
    let none : drop (length xs - at) (drop at xs) ≡ [] = drop_all (length xs - at) (drop at xs) (omega (arith, length-drop at xs)) in
    let rest : drop 4 (take (length xs - at) (drop at xs)) ≡ drop (at + 4) xs = rw take_rest (drop-drop 4 at xs) in
    rw (none, rest, append-nil) refl

written_below : (xs four : List ℕ) (at b : ℕ) → at ≤ length xs → b < at → get_or (take at xs ++ (four ++ drop (at + 4) xs)) b 0 ≡ get_or xs b 0
written_below xs four at b le lt =
    get_or_append_left (take at xs) _ 0 b (rw (length-take-le at xs le) lt) ∙ get_or-take at xs b 0 lt

written_above : (xs four : List ℕ) (at b : ℕ) → at ≤ length xs → length four ≡ 4 → at + 4 ≤ b → get_or (take at xs ++ (four ++ drop (at + 4) xs)) b 0 ≡ get_or xs b 0
written_above xs four at b le long past =
    let same : at + 4 + (b - at - 4) ≡ b = omega arith in
    get_or-append_right (take at xs) _ at b 0 (length-take-le at xs le) (omega arith)
    ∙ get_or-append_right four _ 4 (b - at) 0 long (omega arith)
    ∙ get_or-drop (at + 4) xs (b - at - 4) 0
    ∙ ap (λ i. get_or xs i 0) same

pub write_others : (xs buf four : List ℕ) (k b : ℕ) → 4 * k + 4 ≤ length xs → length four ≡ 4 → buf ≡ four ++ drop 4 (take (length xs - 4 * k) (drop (4 * k) xs)) → length (put_mid (4 * k) (length xs - 4 * k) xs buf) ≡ length xs → ¬ (b / 4 ≡ k) → slice_get (put_mid (4 * k) (length xs - 4 * k) xs buf) b ≡ slice_get xs b
write_others xs buf four k b within long is len other =
    let whole : put_mid (4 * k) (length xs - 4 * k) xs buf ≡ take (4 * k) xs ++ (four ++ drop (4 * k + 4) xs) = ap (λ ys. put_mid (4 * k) (length xs - 4 * k) xs ys) is ∙ written_is xs four (4 * k) in
    same_get _ xs b len (ap (λ ys. get_or ys b 0) whole ∙ elim (cases_lt b (4 * k)) [
      | inl lt ↦ written_below xs four (4 * k) b (omega arith) lt
      | inr le ↦ written_above xs four (4 * k) b (omega arith) long (omega arith)
    ])

-- a word cannot do both
pub not_both : (word : ℕ) (delta : ℤ) → Leaves word delta → Stays word delta → ⊥
not_both word delta (inl under) stays = omega (arith, ints, under, stays.0)
not_both word delta (inr over) stays = omega (arith, ints, over, stays.1)

-- the marked words below a place are moved, and no other byte is changed
pub record IsMovedTo (marks : List Bool) (delta : ℤ) (i : ℕ) (old now : List ℕ) : Type 0 where
  pub len : length now ≡ length old
  pub moved : (k : ℕ) → k < i → IsMarked marks k → pos (word_at now k) ≡ pos (word_at old k) +ℤ delta
  pub others : (b : ℕ) → ¬ IsMarked marks (b / 4) → slice_get now b ≡ slice_get old b
  pub ahead : (b : ℕ) → i ≤ b / 4 → slice_get now b ≡ slice_get old b

pub moved_none : (marks : List Bool) (delta : ℤ) (old : List ℕ) → IsMovedTo marks delta 0 old old
moved_none marks delta old = record { len = refl; moved = λ k lt. absurd (omega arith); others = λ b m. refl; ahead = λ b le. refl }

-- a word at the place is as it was
pub moved_word : (marks : List Bool) (delta : ℤ) (i : ℕ) (old now : List ℕ) → IsMovedTo marks delta i old now → word_at now i ≡ word_at old i
moved_word marks delta i old now m = word_same now old i (λ b e. m.ahead b (omega arith))

true≢false_of : (marks : List Bool) (i : ℕ) → slice_get marks i ≡ Some false → ¬ IsMarked marks i
true≢false_of marks i e m = cc

-- a word that is not marked
pub moved_past : (marks : List Bool) (delta : ℤ) (i : ℕ) (old now : List ℕ) → IsMovedTo marks delta i old now → slice_get marks i ≡ Some false → IsMovedTo marks delta (i + 1) old now
moved_past marks delta i old now m e = record {
  len = m.len;
  moved = λ k lt is. elim (cases_eq k i) [
    | inl same ↦ absurd (true≢false_of marks i e (rw (← same) is))
    | inr other ↦ m.moved k (omega arith) is
  ];
  others = m.others;
  ahead = λ b le. m.ahead b (omega arith);
}

-- a word that is marked
pub moved_one : (marks : List Bool) (delta : ℤ) (i : ℕ) (old now new : List ℕ) (word : ℕ) → IsMovedTo marks delta i old now → slice_get marks i ≡ Some true → pos word ≡ pos (word_at now i) +ℤ delta → length new ≡ length now → word_at new i ≡ word → ((b : ℕ) → ¬ (b / 4 ≡ i) → slice_get new b ≡ slice_get now b) → IsMovedTo marks delta (i + 1) old new
moved_one marks delta i old now new word m is sum len written others = record {
  len = len ∙ m.len;
  moved = λ k lt marked. elim (cases_eq k i) [
    | inl same ↦
        let here : pos (word_at new i) ≡ pos (word_at old i) +ℤ delta =
        ap pos written ∙ sum ∙ ap (λ v. pos v +ℤ delta) (moved_word marks delta i old now m) in
        rw same here
    | inr other ↦
        let stands : word_at new k ≡ word_at now k = word_same new now k (λ b e. others b (λ f. other (sym e ∙ f))) in
        ap pos stands ∙ m.moved k (omega arith) marked
  ];
  others = λ b none.
      let apart : ¬ (b / 4 ≡ i) = λ f. none (rw f is) in
      others b apart ∙ m.others b none;
  ahead = λ b le. others b (λ f. omega arith) ∙ m.ahead b (omega arith);
}
