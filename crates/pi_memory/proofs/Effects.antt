-- The laws of memory.
use Rattle.std.proofs.Common.{◌≡◌, ℕ, ◌+◌, ◌-◌, ◌<◌, ◌≤◌, List, [], ◌++◌, length, take, drop, replicate, true, nat_le, ◌&&◌, arith, refl, sym, ap, ◌∙◌, subst, inl, inr, length-append}
use Rattle.std.proofs.lemmas.Bool.{cases_eq}
use Rattle.std.proofs.lemmas.List.{length-set, length-replicate, get_or-set_same, get_or-set_other, append-nil}
use Rattle.std.proofs.lemmas.List.Folds.{position_or_len-set}
use Rattle.byteorder.specs.Endian.{little_number, little_bytes}
use Rattle.byteorder.specs.Numbers.{length-bytes_low_first, little_number-reads_back}
use Rattle.pi_memory.specs.Space.{Space, no_space, mark_of, holds, bytes_in, with_bytes, with_zeros}
use Rattle.pi_memory.specs.Memory.{space_at, holder, IsBelow, bytes_at, with_bytes_at, with_zeros_in, AreLaid}
use Rattle.pi_memory.specs.Laws.{SpaceIsFound, WrittenIsRead, NumberIsRead, ApartIsKept, PlacesAreKept, OthersAreKept, PartIsRead, PartIsWritten, BumpIsZero, BumpKeeps, BumpLeavesOthers, WriteStaysLaid, BumpStaysLaid}
use Rattle.pi_memory.proofs.Spaces.{from_base, to_mark, holds_from, at_holder, holder_is, length-put, space_put, space_grown, laid_set}
use Rattle.pi_memory.proofs.Parts.{over_same, over_before, over_behind, part_of, over_part, more_zeros, more_kept}

pub space_found : SpaceIsFound
space_found ss k at n laid lt some b m = holder_is ss k at n laid some lt (holds_from at n (space_at ss k) b m)

-- a space after a write holds what it held
holds_put : (at b m : ℕ) (ys : List ℕ) (s : Space) → holds at (length ys) s ≡ true → holds b m (with_bytes at ys s) ≡ holds b m s
holds_put at b m ys s h = ap (λ v. nat_le s.base b && nat_le (b + m) (s.base + v)) (length-put at ys s h)

pub places_kept : PlacesAreKept
places_kept ss at ys b m below =
    let k = holder ss at (length ys) in
    let s = space_at ss k in
    position_or_len-set (holds b m) ss k (with_bytes at ys s) no_space (holds_put at b m ys s (at_holder ss at (length ys) below))

pub others_kept : OthersAreKept
others_kept ss at ys j other = get_or-set_other ss (holder ss at (length ys)) j (with_bytes at ys (space_at ss (holder ss at (length ys)))) no_space other

-- the space in which was written
changed_is : (ss : List Space) (at : ℕ) (ys : List ℕ) → IsBelow ss at (length ys) → space_at (with_bytes_at ss at ys) (holder ss at (length ys)) ≡ with_bytes at ys (space_at ss (holder ss at (length ys)))
changed_is ss at ys below = get_or-set_same ss (holder ss at (length ys)) (with_bytes at ys (space_at ss (holder ss at (length ys)))) no_space below

-- what is read after a write, by the space that has it
read_in : (ss : List Space) (at : ℕ) (ys : List ℕ) (b m : ℕ) → IsBelow ss at (length ys) → bytes_at (with_bytes_at ss at ys) b m ≡ bytes_in b m (space_at (with_bytes_at ss at ys) (holder ss b m))
read_in ss at ys b m below = ap (λ v. bytes_in b m (space_at (with_bytes_at ss at ys) v)) (places_kept ss at ys b m below)

offset_in : (at n : ℕ) (s : Space) → holds at n s ≡ true → (at - s.base) + n ≤ length s.bytes
offset_in at n s h = let a = from_base at n s h in let b = to_mark at n s h in omega arith

pub written_read : WrittenIsRead
written_read ss at ys below =
    let k = holder ss at (length ys) in
    let s = space_at ss k in
    let o = offset_in at (length ys) s (at_holder ss at (length ys) below) in
    read_in ss at ys at (length ys) below ∙ ap (bytes_in at (length ys)) (changed_is ss at ys below) ∙ over_same (at - s.base) ys s.bytes (omega arith)

pub number_read : NumberIsRead
number_read ss at n v fits below =
    let ys = little_bytes n v in
    let long : length (little_bytes n v) ≡ n = length-bytes_low_first 0 n v in
    let here : IsBelow ss at (length (little_bytes n v)) = rw long below in
    let back : bytes_at (with_bytes_at ss at (little_bytes n v)) at n ≡ little_bytes n v = subst (λ z. bytes_at (with_bytes_at ss at (little_bytes n v)) at z ≡ little_bytes n v) long (written_read ss at (little_bytes n v) here) in
    let whole : little_number n (little_bytes n v ++ []) ≡ v = little_number-reads_back n v [] fits in
    ap (little_number n) (back ∙ sym (append-nil (little_bytes n v))) ∙ whole

pub apart_kept : ApartIsKept
apart_kept ss at ys b m below there apart =
    let k = holder ss at (length ys) in
    let j = holder ss b m in
    let s = space_at ss k in
    let h = at_holder ss at (length ys) below in
    let g = at_holder ss b m there in
    let o = offset_in at (length ys) s h in
    let base = from_base at (length ys) s h in
    read_in ss at ys b m below ∙ elim (cases_eq j k) [
      | inl same ↦
          let mine : holds b m s ≡ true = subst (λ v. holds b m (space_at ss v) ≡ true) same g in
          let b_base = from_base b m s mine in
          let parts : bytes_in b m (with_bytes at ys s) ≡ bytes_in b m s = elim apart [
            | inl before ↦ over_before (at - s.base) (b - s.base) m ys s.bytes (omega arith) (omega arith)
            | inr behind ↦ over_behind (at - s.base) (b - s.base) m ys s.bytes (omega arith) (omega arith)
          ] in
          ap (λ v. bytes_in b m (space_at (with_bytes_at ss at ys) v)) same ∙ ap (bytes_in b m) (changed_is ss at ys below) ∙ parts ∙ ap (λ v. bytes_in b m (space_at ss v)) (sym same)
      | inr other ↦ ap (bytes_in b m) (others_kept ss at ys j other)
    ]

-- fewer bytes are found where more are
inner_at : (ss : List Space) (at n b m : ℕ) → AreLaid ss → IsBelow ss at n → 0 < m → at ≤ b → b + m ≤ at + n → holder ss b m ≡ holder ss at n
inner_at ss at n b m laid below some from to =
    let k = holder ss at n in
    let h = at_holder ss at n below in
    let base = from_base at n (space_at ss (holder ss at n)) h in
    let mark = to_mark at n (space_at ss (holder ss at n)) h in
    space_found ss (holder ss at n) b m laid below some (omega arith) (omega arith)

pub part_read : PartIsRead
part_read ss at n b m laid below some from to =
    let k = holder ss at n in
    let is = inner_at ss at n b m laid below some from to in
    let h = at_holder ss at n below in
    let base = from_base at n (space_at ss (holder ss at n)) h in
    let s = space_at ss (holder ss at n) in
    let place : (at - s.base) + (b - at) ≡ b - s.base = omega arith in
    let part : bytes_in b m s ≡ take m (drop (b - at) (bytes_in at n s)) =
    ap (λ v. take m (drop v s.bytes)) (sym place) ∙ sym (part_of (at - s.base) n (b - at) m s.bytes (omega arith)) in
    record { below = rw is below; part = ap (λ v. bytes_in b m (space_at ss v)) is ∙ part }

pub part_written : PartIsWritten
part_written ss at n b ys laid below some from to =
    let is = inner_at ss at n b (length ys) laid below some from to in
    let s = space_at ss (holder ss at n) in
    let h = at_holder ss at n below in
    let base = from_base at n (space_at ss (holder ss at n)) h in
    let o = offset_in at n (space_at ss (holder ss at n)) h in
    let here : IsBelow ss b (length ys) = rw is below in
    let place : (at - s.base) + (b - at) ≡ b - s.base = omega arith in
    let new : space_at (with_bytes_at ss b ys) (holder ss at n) ≡ with_bytes b ys s =
    ap (space_at (with_bytes_at ss b ys)) (sym is) ∙ changed_is ss b ys here ∙ ap (λ v. with_bytes b ys (space_at ss v)) is in
    let moved : bytes_in at n (with_bytes b ys s) ≡ take n (drop (at - s.base) (take ((at - s.base) + (b - at)) s.bytes ++ (ys ++ drop (length ys) (drop ((at - s.base) + (b - at)) s.bytes)))) = rw place refl in
    read_in ss b ys at n here ∙ ap (bytes_in at n) new ∙ moved ∙ over_part (at - s.base) n (b - at) ys s.bytes o (omega arith)

pub write_laid : WriteStaysLaid
write_laid ss at ys laid below =
    let h = at_holder ss at (length ys) below in
    laid_set ss (holder ss at (length ys)) (with_bytes at ys (space_at ss (holder ss at (length ys)))) laid (space_put at ys (space_at ss (holder ss at (length ys))) (laid.each (holder ss at (length ys)) below) h) refl refl

pub bump_laid : BumpStaysLaid
bump_laid ss k n laid lt whole fits = laid_set ss k (with_zeros n (space_at ss k)) laid (space_grown n (space_at ss k) (laid.each k lt) whole fits) refl refl

pub bump_others : BumpLeavesOthers
bump_others ss k n j other = get_or-set_other ss k j (with_zeros n (space_at ss k)) no_space other

bumped_is : (ss : List Space) (k n : ℕ) → k < length ss → space_at (with_zeros_in ss k n) k ≡ with_zeros n (space_at ss k)
bumped_is ss k n lt = get_or-set_same ss k (with_zeros n (space_at ss k)) no_space lt

length-grown : (n : ℕ) (s : Space) → length (with_zeros n s).bytes ≡ length s.bytes + n
length-grown n s = simp (length-append, length-replicate) refl

pub bump_zero : BumpIsZero
bump_zero ss k n laid lt whole some fits =
    let s = space_at ss k in
    let new = bumped_is ss k n lt in
    let long = length-grown n (space_at ss k) in
    let there : k < length (with_zeros_in ss k n) = omega (arith, length-set ss k (with_zeros n (space_at ss k))) in
    let h : holds (mark_of (space_at ss k)) n (space_at (with_zeros_in ss k n) k) ≡ true =
    rw new (holds_from (mark_of (space_at ss k)) n (with_zeros n (space_at ss k)) (omega arith) (omega arith)) in
    let found : holder (with_zeros_in ss k n) (mark_of (space_at ss k)) n ≡ k = holder_is (with_zeros_in ss k n) k (mark_of (space_at ss k)) n (bump_laid ss k n laid lt whole fits) some there h in
    let place : mark_of (space_at ss k) - (space_at ss k).base ≡ length (space_at ss k).bytes = omega arith in
    let zeros : bytes_in (mark_of (space_at ss k)) n (with_zeros n (space_at ss k)) ≡ replicate n 0 = rw place (more_zeros n (space_at ss k).bytes) in
    ap (λ v. bytes_in (mark_of (space_at ss k)) n (space_at (with_zeros_in ss k n) v)) found ∙ ap (bytes_in (mark_of (space_at ss k)) n) new ∙ zeros

pub bump_keeps : BumpKeeps
bump_keeps ss k n b m laid lt whole fits some below =
    let j = holder ss b m in
    let h = at_holder ss b m below in
    let after = bump_laid ss k n laid lt whole fits in
    let there : holder ss b m < length (with_zeros_in ss k n) = omega (arith, length-set ss k (with_zeros n (space_at ss k))) in
    let base = from_base b m (space_at ss (holder ss b m)) h in
    let mark = to_mark b m (space_at ss (holder ss b m)) h in
    elim (cases_eq (holder ss b m) k) [
      | inl same ↦
          let new : space_at (with_zeros_in ss k n) (holder ss b m) ≡ with_zeros n (space_at ss (holder ss b m)) =
          ap (space_at (with_zeros_in ss k n)) same ∙ bumped_is ss k n lt ∙ ap (λ v. with_zeros n (space_at ss v)) (sym same) in
          let long = length-grown n (space_at ss (holder ss b m)) in
          let here : holds b m (space_at (with_zeros_in ss k n) (holder ss b m)) ≡ true =
          rw new (holds_from b m (with_zeros n (space_at ss (holder ss b m))) base (omega arith)) in
          let found = holder_is (with_zeros_in ss k n) (holder ss b m) b m after some there here in
          let part : bytes_in b m (with_zeros n (space_at ss (holder ss b m))) ≡ bytes_in b m (space_at ss (holder ss b m)) =
          more_kept (b - (space_at ss (holder ss b m)).base) m (space_at ss (holder ss b m)).bytes (replicate n 0) (offset_in b m (space_at ss (holder ss b m)) h) in
          (found, ap (λ v. bytes_in b m (space_at (with_zeros_in ss k n) v)) found ∙ ap (bytes_in b m) new ∙ part)
      | inr other ↦
          let new : space_at (with_zeros_in ss k n) (holder ss b m) ≡ space_at ss (holder ss b m) = bump_others ss k n (holder ss b m) other in
          let here : holds b m (space_at (with_zeros_in ss k n) (holder ss b m)) ≡ true = rw new h in
          let found = holder_is (with_zeros_in ss k n) (holder ss b m) b m after some there here in
          (found, ap (λ v. bytes_in b m (space_at (with_zeros_in ss k n) v)) found ∙ ap (bytes_in b m) new)
    ]
