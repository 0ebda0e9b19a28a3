-- Frames in a store of words.
use Rattle.std.proofs.Common.{◌≡◌, rules, ℕ, zero, suc, ◌+◌, ◌*◌, ◌-◌, ◌<◌, ◌≤◌, List, [], ◌∷◌, ◌++◌, length, get_or, set, take, drop, replicate, slice_get, Some, IsSomeAnd, arith, refl, sym, ap, ◌∙◌, length-set, length-drop, length-append}
use Rattle.std.proofs.lemmas.List.{length-take-le, drop-drop, drop-set-lt, drop-set-add, drop_at, take_at, length-replicate, get_or-take, get_or-drop, get_or_default}
use Rattle.std.proofs.lemmas.List.Sums.{sum_by-cons}
use Rattle.std.proofs.lemmas.Option.{slice_get-get_or}
use borrow.Rule.Slice.PartMut.{put_mid}
use Rattle.pi_frames.specs.Frames.{frame_words, all_words, HasRegister, with_register, with_pc, fresh, frame_in, words_behind, frames_in, IsWhole, IsKept}
use Rattle.pi_model.specs.declared.numbers.MethodNo.{MethodNo}

pub length-frames_in : (d : ℕ) (ws : List ℕ) → length (frames_in d ws) ≡ d
length-frames_in zero ws = refl
length-frames_in (suc d) ws = ap suc (length-frames_in d (words_behind ws))

-- the words of whole frames
pub whole_words : (d : ℕ) (ws : List ℕ) → IsWhole d ws → all_words (frames_in d ws) ≡ length ws
whole_words zero ws h = sym h
whole_words (suc d) ws h =
    let rest = whole_words d (words_behind ws) h.1 in
    let four = length-drop 4 ws in
    let regs : length (take (get_or ws 2 0) (drop 4 ws)) ≡ get_or ws 2 0 = length-take-le (get_or ws 2 0) (drop 4 ws) (omega (arith, h.0, four)) in
    let past = length-drop (get_or ws 2 0) (drop 4 ws) in
    sum_by-cons frame_words (frame_in ws) (frames_in d (words_behind ws)) ∙ omega (arith, h.0, rest, four, regs, past)

-- a frame has four words at least
pub whole_depth : (d : ℕ) (ws : List ℕ) → IsWhole d ws → 4 * d ≤ length ws
whole_depth zero ws h = omega arith
whole_depth (suc d) ws h =
    omega (arith, whole_depth d (words_behind ws) h.1, h.0, length-drop (get_or ws 2 0) (drop 4 ws), length-drop 4 ws)

-- the words have a register of that number, and all words of their first frame
pub record First (ws : List ℕ) (i : ℕ) : Type 0 where
  pub here : i < get_or ws 2 0
  pub there : get_or ws 2 0 + 4 ≤ length ws

-- there is a frame
pub top_within : (d : ℕ) (ws : List ℕ) → 0 < length (frames_in d ws) → IsWhole d ws → get_or ws 2 0 + 4 ≤ length ws
top_within zero ws some h = absurd (omega arith)
top_within (suc d) ws some h = h.0

-- there is a frame with the register
pub register_within : (d : ℕ) (ws : List ℕ) (i : ℕ) → HasRegister (frames_in d ws) i → IsWhole d ws → First ws i
register_within zero ws i has h = absurd (search rules)
register_within (suc d) ws i has h =
    let four = length-drop 4 ws in
    let regs : length (take (get_or ws 2 0) (drop 4 ws)) ≡ get_or ws 2 0 = length-take-le (get_or ws 2 0) (drop 4 ws) (omega (arith, h.0, four)) in
    record { here = rw (← regs) has; there = h.0 }

-- a register of the top frame
pub read_register : (d : ℕ) (ws : List ℕ) (i v : ℕ) → HasRegister (frames_in d ws) i → IsWhole d ws → v ≡ get_or ws (4 + i) 0 → IsSomeAnd (slice_get (frames_in d ws) 0) (λ f. slice_get f.regs i ≡ Some v)
read_register zero ws i v has h is = absurd (search rules)
read_register (suc d) ws i v has h is =
    let first = register_within (suc d) ws i has h in
    slice_get-get_or (take (get_or ws 2 0) (drop 4 ws)) i 0 has
    ∙ ap (λ w. Some w) (get_or-take (get_or ws 2 0) (drop 4 ws) i 0 first.here ∙ get_or-drop 4 ws i 0 ∙ sym is)

-- a write inside a front
take-set_inside : (n : ℕ) (xs : List ℕ) (i v : ℕ) → take n (set xs i v) ≡ set (take n xs) i v
take-set_inside zero xs i v = refl
take-set_inside (suc n) [] i v = refl
take-set_inside (suc n) (x ∷ xs) zero v = refl
take-set_inside (suc n) (x ∷ xs) (suc i) v = ap (λ ys. x ∷ ys) (take-set_inside n xs i v)

-- a register of the top frame is written
pub set_register : (d : ℕ) (ws : List ℕ) (i v : ℕ) → HasRegister (frames_in d ws) i → IsWhole d ws → (frames_in d (set ws (4 + i) v) ≡ with_register i v (frames_in d ws)) × IsWhole d (set ws (4 + i) v)
set_register zero ws i v has h = absurd (search rules)
set_register (suc d) [] i v has h = absurd (omega (arith, h.0))
set_register (suc d) (a ∷ []) i v has h = absurd (omega (arith, h.0))
set_register (suc d) (a ∷ b ∷ []) i v has h = absurd (omega (arith, h.0))
set_register (suc d) (a ∷ b ∷ c ∷ []) i v has h = absurd (omega (arith, h.0))
set_register (suc d) (a ∷ b ∷ c ∷ e ∷ rest) i v has h =
    let first = register_within (suc d) (a ∷ b ∷ c ∷ e ∷ rest) i has h in
    let place : 4 + i ≡ suc (suc (suc (suc i))) = omega arith in
    let behind_is : drop c (set rest i v) ≡ drop c rest = drop-set-lt c rest i v first.here in
    let long : length (set rest i v) ≡ length rest = length-set rest i v in
    rw place (rw (behind_is, take-set_inside c rest i v, long) (refl, h))

-- the next unit of the top frame is written
pub set_next : (d : ℕ) (ws : List ℕ) (at : ℕ) → 0 < length (frames_in d ws) → IsWhole d ws → (frames_in d (set ws 1 at) ≡ with_pc at (frames_in d ws)) × IsWhole d (set ws 1 at)
set_next zero ws at some h = absurd (omega arith)
set_next (suc d) [] at some h = absurd (omega (arith, h.0))
set_next (suc d) (a ∷ []) at some h = absurd (omega (arith, h.0))
set_next (suc d) (a ∷ b ∷ []) at some h = absurd (omega (arith, h.0))
set_next (suc d) (a ∷ b ∷ c ∷ []) at some h = absurd (omega (arith, h.0))
set_next (suc d) (a ∷ b ∷ c ∷ e ∷ rest) at some h = (refl, h)

-- the frames below the top one
pub popped : (d : ℕ) (ws : List ℕ) → 0 < length (frames_in d ws) → IsWhole d ws → (frames_in (d - 1) (words_behind ws) ≡ drop 1 (frames_in d ws)) × IsWhole (d - 1) (words_behind ws)
popped zero ws some h = absurd (omega arith)
popped (suc d) ws some h =
    let less : suc d - 1 ≡ d = omega arith in
    rw less (refl, h.1)

-- the words behind the top frame in the store
pub behind_in : (words : List ℕ) (top v : ℕ) → v ≡ get_or words (top + 2) v → top + 2 < length words → drop (top + (v + 4)) words ≡ words_behind (drop top words)
behind_in words top v is within =
    let at : get_or (drop top words) 2 0 ≡ v = get_or-drop top words 2 0 ∙ get_or_default words (top + 2) 0 v within ∙ sym is in
    let sum : top + (4 + v) ≡ top + (v + 4) = omega arith in
    sym (ap (λ k. drop k (drop 4 (drop top words))) at
    ∙ drop-drop v 4 (drop top words)
    ∙ drop-drop (4 + v) top words
    ∙ ap (λ k. drop k words) sum)

-- a new frame
pub pushed_is : (ws rest : List ℕ) (d n : ℕ) (m : MethodNo) → ws ≡ m.0 ∷ 0 ∷ n ∷ 0 ∷ (replicate n 0 ++ rest) → IsWhole d rest → (frames_in (d + 1) ws ≡ fresh m n ∷ frames_in d rest) × IsWhole (d + 1) ws
pushed_is ws rest d n m is h =
    let more : d + 1 ≡ suc d = omega arith in
    let front : take n (replicate n 0 ++ rest) ≡ replicate n 0 = take_at (replicate n 0) rest n (length-replicate n 0) in
    let back : drop n (replicate n 0 ++ rest) ≡ rest = drop_at (replicate n 0) rest n (length-replicate n 0) in
    let long : length (replicate n 0 ++ rest) ≡ n + length rest = length-append (replicate n 0) rest ∙ ap (λ k. k + length rest) (length-replicate n 0) in
    rw (more, is) (rw (front, back, long) (refl, (omega arith, h)))

-- how a new frame is laid into the store
pub laid_is : (words zeros : List ℕ) (top n m : ℕ) → top + (n + 4) ≤ length words → zeros ≡ replicate (n + 4) 0 → drop top (set (set (put_mid top (top + (n + 4) - top) words zeros) top m) (top + 2) n) ≡ m ∷ 0 ∷ n ∷ 0 ∷ (replicate n 0 ++ drop (top + (n + 4)) words)
laid_is words zeros top n m within is =
    let size : top + (n + 4) - top ≡ n + 4 = omega arith in
    let here : top + 0 ≡ top = omega arith in
    let more : n + 4 ≡ suc (suc (suc (suc n))) = omega arith in
    let store : List ℕ = put_mid top (top + (n + 4) - top) words zeros in
    let from : drop top store ≡ zeros ++ drop (top + (n + 4) - top) (drop top words) = drop_at (take top words) _ top (length-take-le top words (omega arith)) in
    let first : drop top (set store top m) ≡ set (drop top store) 0 m = ap (λ k. drop top (set store k m)) (sym here) ∙ drop-set-add top store 0 m in
    let last : drop (top + (n + 4) - top) (drop top words) ≡ drop (top + (n + 4)) words = ap (λ k. drop k (drop top words)) size ∙ drop-drop (n + 4) top words in
    let four : zeros ≡ 0 ∷ 0 ∷ 0 ∷ 0 ∷ replicate n 0 = is ∙ ap (λ k. replicate k 0) more in
    drop-set-add top (set store top m) 2 n
    ∙ ap (λ ys. set ys 2 n) first
    ∙ ap (λ ys. set (set ys 0 m) 2 n) from
    ∙ ap (λ ys. set (set (ys ++ drop (top + (n + 4) - top) (drop top words)) 0 m) 2 n) four
    ∙ ap (λ ys. m ∷ 0 ∷ n ∷ 0 ∷ (replicate n 0 ++ ys)) last

-- the words of all frames are those behind the place of the top one
pub words_taken : (words : List ℕ) (top depth : ℕ) → IsKept words top depth → all_words (frames_in depth (drop top words)) + top ≡ length words
words_taken words top depth k = omega (arith, whole_words depth (drop top words) k.whole, length-drop top words, k.within)

pub room_for_depth : (words : List ℕ) (top depth : ℕ) → IsKept words top depth → 4 * depth + top ≤ length words
room_for_depth words top depth k = omega (arith, whole_depth depth (drop top words) k.whole, length-drop top words, k.within)

-- those facts of a store
pub kept_popped : (words : List ℕ) (top depth v : ℕ) → 0 < length (frames_in depth (drop top words)) → IsKept words top depth → v ≡ get_or words (top + 2) v → IsKept words (top + (v + 4)) (depth - 1)
kept_popped words top depth v some k is =
    let there = top_within depth (drop top words) some k.whole in
    let long = length-drop top words in
    let at : get_or (drop top words) 2 0 ≡ v = get_or-drop top words 2 0 ∙ get_or_default words (top + 2) 0 v (omega (arith, there, long)) ∙ sym is in
    record {
      within = omega (arith, there, long, at, k.within);
      small = k.small;
      whole = rw (behind_in words top v is (omega (arith, there, long))) (popped depth (drop top words) some k.whole).1;
    }

pub rest_popped : (words : List ℕ) (top depth v : ℕ) → 0 < length (frames_in depth (drop top words)) → IsKept words top depth → v ≡ get_or words (top + 2) v → frames_in (depth - 1) (drop (top + (v + 4)) words) ≡ drop 1 (frames_in depth (drop top words))
rest_popped words top depth v some k is =
    let there = top_within depth (drop top words) some k.whole in
    ap (frames_in (depth - 1)) (behind_in words top v is (omega (arith, there, length-drop top words))) ∙ (popped depth (drop top words) some k.whole).0

pub register_at : (words : List ℕ) (top depth i v : ℕ) → HasRegister (frames_in depth (drop top words)) i → IsKept words top depth → v ≡ get_or words (top + 4 + i) v → IsSomeAnd (slice_get (frames_in depth (drop top words)) 0) (λ f. slice_get f.regs i ≡ Some v)
register_at words top depth i v has k is =
    let first = register_within depth (drop top words) i has k.whole in
    let sum : top + (4 + i) ≡ top + 4 + i = omega arith in
    let at : get_or (drop top words) (4 + i) 0 ≡ v = get_or-drop top words (4 + i) 0 ∙ ap (λ j. get_or words j 0) sum ∙ get_or_default words (top + 4 + i) 0 v (omega (arith, first.here, first.there, length-drop top words)) ∙ sym is in
    read_register depth (drop top words) i v has k.whole (sym at)

written_at : (words : List ℕ) (top i v : ℕ) → drop top (set words (top + 4 + i) v) ≡ set (drop top words) (4 + i) v
written_at words top i v =
    let sum : top + 4 + i ≡ top + (4 + i) = omega arith in
    ap (λ j. drop top (set words j v)) sum ∙ drop-set-add top words (4 + i) v

pub kept_register : (words : List ℕ) (top depth i v : ℕ) → HasRegister (frames_in depth (drop top words)) i → IsKept words top depth → IsKept (set words (top + 4 + i) v) top depth
kept_register words top depth i v has k = record {
  within = rw (length-set words (top + 4 + i) v) k.within;
  small = rw (length-set words (top + 4 + i) v) k.small;
  whole = rw (written_at words top i v) (set_register depth (drop top words) i v has k.whole).1;
}

pub with_register_at : (words : List ℕ) (top depth i v : ℕ) → HasRegister (frames_in depth (drop top words)) i → IsKept words top depth → frames_in depth (drop top (set words (top + 4 + i) v)) ≡ with_register i v (frames_in depth (drop top words))
with_register_at words top depth i v has k =
    ap (frames_in depth) (written_at words top i v) ∙ (set_register depth (drop top words) i v has k.whole).0

pub kept_pc : (words : List ℕ) (top depth at : ℕ) → 0 < length (frames_in depth (drop top words)) → IsKept words top depth → IsKept (set words (top + 1) at) top depth
kept_pc words top depth at some k = record {
  within = rw (length-set words (top + 1) at) k.within;
  small = rw (length-set words (top + 1) at) k.small;
  whole = rw (drop-set-add top words 1 at) (set_next depth (drop top words) at some k.whole).1;
}

pub with_pc_at : (words : List ℕ) (top depth at : ℕ) → 0 < length (frames_in depth (drop top words)) → IsKept words top depth → frames_in depth (drop top (set words (top + 1) at)) ≡ with_pc at (frames_in depth (drop top words))
with_pc_at words top depth at some k =
    ap (frames_in depth) (drop-set-add top words 1 at) ∙ (set_next depth (drop top words) at some k.whole).0

-- a new frame in a store
store_is : (xs old : List ℕ) (n : ℕ) → length xs ≡ length old → n ≡ length old → take n (xs ++ drop (length xs) old) ≡ xs
store_is xs old n same e = take_at xs (drop (length xs) old) n (omega arith)

pub frames_pushed : (xs old : List ℕ) (top depth n len : ℕ) (m : MethodNo) → n + 4 ≤ top → length xs ≡ length old → len ≡ length old → drop (top - (n + 4)) xs ≡ m.0 ∷ 0 ∷ n ∷ 0 ∷ (replicate n 0 ++ drop (top - (n + 4) + (n + 4)) old) → IsKept old top depth → frames_in (depth + 1) (drop (top - (n + 4)) (take len (xs ++ drop (length xs) old))) ≡ fresh m n ∷ frames_in depth (drop top old)
frames_pushed xs old top depth n len m fits same e laid k =
    let back : top - (n + 4) + (n + 4) ≡ top = omega arith in
    let found = rw back at laid in
    ap (λ ys. frames_in (depth + 1) (drop (top - (n + 4)) ys)) (store_is xs old len same e) ∙ (pushed_is (drop (top - (n + 4)) xs) (drop top old) depth n m found k.whole).0
