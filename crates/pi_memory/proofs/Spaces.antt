-- Which space has the bytes from an address, and what a change of one space keeps.
use Rattle.std.proofs.Common.{◌≡◌, ℕ, ◌+◌, ◌%◌, ◌<◌, ◌≤◌, List, [], ◌∷◌, ◌++◌, length, replicate, slice_index_or, slice_set, true, nat_le, inl, inr, arith, refl, sym, ap, ◌∙◌, subst, length-append, length-drop}
use Rattle.std.proofs.lemmas.Bool.{and_parts, and_from, leb-true, le-leb, cases_eq, false_from_ne_true}
use Rattle.std.proofs.lemmas.List.{length-set, length-take, length-replicate, get_or-set_same, get_or-set_other, get_or_append_left, get_or_at}
use Rattle.std.proofs.lemmas.List.Sums.{position_or_len_is, passes_at_first}
use Rattle.pi_memory.specs.Space.{Space, no_space, mark_of, IsIn, IsSpace, holds, with_bytes, with_zeros}
use Rattle.pi_memory.specs.Memory.{space_at, holder, IsBelow, IsFree, AreLaid}

-- bytes that stand in a space are between its base and its mark
pub from_base : (at n : ℕ) (s : Space) → holds at n s ≡ true → s.base ≤ at
from_base at n s h = leb-true s.base at (and_parts (nat_le s.base at) (nat_le (at + n) (mark_of s)) h).0

pub to_mark : (at n : ℕ) (s : Space) → holds at n s ≡ true → at + n ≤ mark_of s
to_mark at n s h = leb-true (at + n) (mark_of s) (and_parts (nat_le s.base at) (nat_le (at + n) (mark_of s)) h).1

pub holds_from : (at n : ℕ) (s : Space) → s.base ≤ at → at + n ≤ mark_of s → holds at n s ≡ true
holds_from at n s b m = and_from (nat_le s.base at) (nat_le (at + n) (mark_of s)) (le-leb _ _ b) (le-leb _ _ m)

-- the space that is found has the bytes
pub at_holder : (ss : List Space) (at n : ℕ) → IsBelow ss at n → holds at n (space_at ss (holder ss at n)) ≡ true
at_holder ss at n h = passes_at_first (holds at n) ss no_space h

-- a space that has the bytes is the one that is found
pub holder_is : (ss : List Space) (k at n : ℕ) → AreLaid ss → 0 < n → k < length ss → holds at n (space_at ss k) ≡ true → holder ss at n ≡ k
holder_is ss k at n laid some lt h =
    position_or_len_is (holds at n) ss k no_space (omega arith)
    (λ j below. false_from_ne_true (holds at n (space_at ss j)) (λ other.
    let j_lt : j < length ss = omega arith in
    let here = laid.each k lt in
    let there = laid.each j j_lt in
    let a = from_base at n (space_at ss k) h in
    let b = to_mark at n (space_at ss k) h in
    let c = from_base at n (space_at ss j) other in
    let d = to_mark at n (space_at ss j) other in
    let same : j ≡ k = laid.apart j k at j_lt lt
    (record { from = c; to = omega (arith, there.fits, d) })
    (record { from = a; to = omega (arith, here.fits, b) }) in
    omega arith))
    (λ _. h)

pub length-put : (at : ℕ) (ys : List ℕ) (s : Space) → holds at (length ys) s ≡ true → length (with_bytes at ys s).bytes ≡ length s.bytes
length-put at ys s h =
    let a = from_base at (length ys) s h in
    let b = to_mark at (length ys) s h in
    simp (length-append, length-take, length-drop) (omega arith)

-- a space with as many bytes in the same range, with more bytes, and with fewer
pub space_as : (s t : Space) → IsSpace s → t.base ≡ s.base → length t.bytes ≡ length s.bytes → t.end ≡ s.end → IsSpace t
space_as s t ok b l e =
    record { base_is_whole = rw b ok.base_is_whole; bytes_are_whole = rw l ok.bytes_are_whole; fits = rw (b, l, e) ok.fits; low = rw e ok.low }

pub space_put : (at : ℕ) (ys : List ℕ) (s : Space) → IsSpace s → holds at (length ys) s ≡ true → IsSpace (with_bytes at ys s)
space_put at ys s ok h = space_as s (with_bytes at ys s) ok refl (length-put at ys s h) refl

pub space_grown : (n : ℕ) (s : Space) → IsSpace s → n % 8 ≡ 0 → mark_of s + n ≤ s.end → IsSpace (with_zeros n s)
space_grown n s ok whole fits =
    let long : length (s.bytes ++ replicate n 0) ≡ length s.bytes + n = simp (length-append, length-replicate) refl in
    record {
      base_is_whole = ok.base_is_whole;
      bytes_are_whole = rw long (omega (arith, ok.bytes_are_whole));
      fits = rw long (omega arith);
      low = ok.low;
    }

pub space_cut : (bs : List ℕ) (s : Space) → IsSpace s → length bs % 8 ≡ 0 → length bs ≤ length s.bytes → IsSpace (record s { bytes = bs })
space_cut bs s ok whole shorter =
    record { base_is_whole = ok.base_is_whole; bytes_are_whole = whole; fits = omega (arith, ok.fits); low = ok.low }

in_as : (s t : Space) (a : ℕ) → t.base ≡ s.base → t.end ≡ s.end → IsIn a t → IsIn a s
in_as s t a b e i = record { from = omega (arith, i.from, b); to = omega (arith, i.to, e) }

-- a space changed within its range keeps all ranges
range_kept : (ss : List Space) (k j : ℕ) (s : Space) → j < length ss → s.base ≡ (space_at ss k).base → s.end ≡ (space_at ss k).end
    → ((space_at (slice_set ss k s) j).base ≡ (space_at ss j).base) × ((space_at (slice_set ss k s) j).end ≡ (space_at ss j).end)
range_kept ss k j s lt b e =
    elim (cases_eq j k) [
      | inl same ↦
          let here : slice_index_or (slice_set ss j s) j no_space ≡ s = get_or-set_same ss j s no_space lt in
          rw (← same) (ap (λ v. v.base) here ∙ b ∙ ap (λ v. (space_at ss v).base) (sym same), ap (λ v. v.end) here ∙ e ∙ ap (λ v. (space_at ss v).end) (sym same))
      | inr other ↦ rw (get_or-set_other ss k j s no_space other) (refl, refl)
    ]

pub laid_set : (ss : List Space) (k : ℕ) (s : Space) → AreLaid ss → IsSpace s → s.base ≡ (space_at ss k).base → s.end ≡ (space_at ss k).end → AreLaid (slice_set ss k s)
laid_set ss k s laid ok b e =
    let same = length-set ss k s in
    record {
      each = λ j lt.
          let j_lt : j < length ss = omega arith in
          elim (cases_eq j k) [
            | inl at ↦ rw (← at) (rw (get_or-set_same ss j s no_space j_lt) ok)
            | inr other ↦ rw (get_or-set_other ss k j s no_space other) (laid.each j j_lt)
          ];
      apart = λ i j a i_in j_in here there.
          let i_lt : i < length ss = omega arith in
          let j_lt : j < length ss = omega arith in
          let p = range_kept ss k i s i_lt b e in
          let q = range_kept ss k j s j_lt b e in
          laid.apart i j a i_lt j_lt (in_as _ _ a p.0 p.1 here) (in_as _ _ a q.0 q.1 there);
    }

-- one more space in a free range
pub laid_push : (ss : List Space) (s : Space) → AreLaid ss → IsSpace s → IsFree ss s.base s.end → AreLaid (ss ++ s ∷ [])
laid_push ss s laid ok free =
    let long : length (ss ++ s ∷ []) ≡ length ss + 1 = length-append ss (s ∷ []) in
    let last : space_at (ss ++ s ∷ []) (length ss) ≡ s = get_or_at ss s [] no_space (length ss) refl in
    record {
      each = λ j lt. elim (cases_eq j (length ss)) [
        | inl at ↦ rw at (rw last ok)
        | inr other ↦
            let j_lt : j < length ss = omega arith in
            rw (get_or_append_left ss (s ∷ []) no_space j j_lt) (laid.each j j_lt)
      ];
      apart = λ i j a i_in j_in here there. elim (cases_eq i (length ss)) [
        | inl i_at ↦ elim (cases_eq j (length ss)) [
          | inl j_at ↦ omega arith
          | inr j_not ↦
              let j_lt : j < length ss = omega arith in
              let mine : IsIn a s = subst (λ v. IsIn a v) (ap (space_at (ss ++ s ∷ [])) i_at ∙ last) here in
              let other : IsIn a (space_at ss j) = subst (λ v. IsIn a v) (get_or_append_left ss (s ∷ []) no_space j j_lt) there in
              let past = free j a j_lt other mine.from in
              absurd (omega (arith, past, mine.to))
        ]
        | inr i_not ↦
            let i_lt : i < length ss = omega arith in
            let one : IsIn a (space_at ss i) = subst (λ v. IsIn a v) (get_or_append_left ss (s ∷ []) no_space i i_lt) here in
            elim (cases_eq j (length ss)) [
              | inl j_at ↦
                  let mine : IsIn a s = subst (λ v. IsIn a v) (ap (space_at (ss ++ s ∷ [])) j_at ∙ last) there in
                  let past = free i a i_lt one mine.from in
                  absurd (omega (arith, past, mine.to))
              | inr j_not ↦
                  let j_lt : j < length ss = omega arith in
                  let two : IsIn a (space_at ss j) = subst (λ v. IsIn a v) (get_or_append_left ss (s ∷ []) no_space j j_lt) there in
                  laid.apart i j a i_lt j_lt one two
            ]
      ];
    }
