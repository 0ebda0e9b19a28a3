-- What memory keeps, kept by each change of one space, and the beginning of a transaction, which no change of its
-- space touches.
use Rattle.std.proofs.Common.{◌≡◌, ℕ, ◌+◌, ◌%◌, ◌<◌, ◌≤◌, List, [], ◌∷◌, ◌++◌, length, slice_index_or, slice_set, replicate, true, Option, Some, None, inl, inr, arith, refl, ap, ◌∙◌, subst, length-append}
use Rattle.std.proofs.lemmas.Bool.{cases_eq}
use Rattle.std.proofs.lemmas.List.{length-set, length-replicate, set-set, get_or-set_same, get_or-set_other, get_or_default}
use Rattle.pi_memory.specs.Space.{Space, no_space, IsSpace, mark_of, holds, with_bytes, with_zeros}
use Rattle.pi_memory.specs.Memory.{Begun, space_at, holder, IsBelow, IsFree, IsOn, AreLaid, IsBegun}
use Rattle.pi_memory.specs.Kept.{Copy, IsCopy, IsKept, taken_back, undo_of}
use Rattle.pi_memory.proofs.Spaces.{at_holder, laid_set, laid_push, length-put, space_put, space_grown, space_cut}

copy_set : (ss : List Space) (c : Copy) (k : ℕ) (s : Space) → IsCopy ss c → k < length ss → length (space_at ss k).bytes ≤ length s.bytes → IsCopy (slice_set ss k s) c
copy_set ss c k s copy lt grows =
    record {
      there = omega (arith, length-set ss k s, copy.there);
      whole = copy.whole;
      shorter = elim (cases_eq c.space k) [
        | inl at ↦
            let here : space_at (slice_set ss k s) c.space ≡ s = rw at (get_or-set_same ss k s no_space lt) in
            let was : length c.bytes ≤ length (space_at ss k).bytes = rw at at copy.shorter in
            rw here (omega arith)
        | inr other ↦ rw (get_or-set_other ss k c.space s no_space other) copy.shorter
      ];
    }

pub kept_set : (ss : List Space) (copy : Option Copy) (k : ℕ) (s : Space) → IsKept ss copy → k < length ss → IsSpace s
    → s.base ≡ (space_at ss k).base → s.end ≡ (space_at ss k).end → length (space_at ss k).bytes ≤ length s.bytes → IsKept (slice_set ss k s) copy
kept_set ss copy k s kept lt ok b e grows =
    record {
      few = omega (arith, length-set ss k s, kept.few);
      laid = laid_set ss k s kept.laid ok b e;
      saved = λ c is. copy_set ss c k s (kept.saved c is) lt grows;
    }

-- the same without a transaction
pub kept_idle : (ss : List Space) (copy : Option Copy) (k : ℕ) (s : Space) → IsKept ss copy → IsSpace s
    → s.base ≡ (space_at ss k).base → s.end ≡ (space_at ss k).end → IsKept (slice_set ss k s) None
kept_idle ss copy k s kept ok b e =
    record { few = omega (arith, length-set ss k s, kept.few); laid = laid_set ss k s kept.laid ok b e; saved = λ c is. cc }

pub kept_push : (ss : List Space) (s : Space) → IsKept ss None → length ss < 9 → IsSpace s → IsFree ss s.base s.end → IsKept (ss ++ s ∷ []) None
kept_push ss s kept few ok free =
    record { few = omega (arith, length-append ss (s ∷ [])); laid = laid_push ss s kept.laid ok free; saved = λ c is. cc }

taken_set : (ss : List Space) (k : ℕ) (s : Space) (bs : List ℕ) → k < length ss → s.base ≡ (space_at ss k).base → s.end ≡ (space_at ss k).end
    → slice_set (slice_set ss k s) k (record (space_at (slice_set ss k s) k) { bytes = bs }) ≡ slice_set ss k (record (space_at ss k) { bytes = bs })
taken_set ss k s bs lt b e =
    let here : space_at (slice_set ss k s) k ≡ s = get_or-set_same ss k s no_space lt in
    let same : record (space_at (slice_set ss k s) k) { bytes = bs } ≡ record (space_at ss k) { bytes = bs } = cc in
    set-set ss k s _ ∙ ap (λ v. slice_set ss k v) same

pub undo_set : (ss : List Space) (copy : Option Copy) (k : ℕ) (s : Space) → k < length ss → s.base ≡ (space_at ss k).base → s.end ≡ (space_at ss k).end
    → IsOn (undo_of ss copy) k → undo_of (slice_set ss k s) copy ≡ undo_of ss copy
undo_set ss None k s lt b e on = refl
undo_set ss (Some c) k s lt b e on =
    let is : c.space ≡ k = on (record { space = c.space; before = taken_back ss c }) refl in
    let same : taken_back (slice_set ss k s) c ≡ taken_back ss c = rw is (taken_set ss k s c.bytes lt b e) in
    ap (λ v. Some (record { space = c.space; before = v })) same

-- what a place of the list is read as
read_at : (ss : List Space) (k : ℕ) (x : Space) → k < length ss → x ≡ slice_index_or ss k x → x ≡ space_at ss k
read_at ss k x lt e = e ∙ get_or_default ss k x no_space lt

-- the space at the place that is found has the bytes
pub has_bytes : (ss now : List Space) (at n k : ℕ) (x : Space) → ss ≡ now → k ≡ holder now at n → IsBelow now at n → x ≡ slice_index_or ss k x → holds at n x ≡ true
has_bytes ss now at n k x same k_is below e =
    let lt : k < length ss = rw (same, k_is) below in
    let is = read_at ss k x lt e in
    let h : holds at n (space_at ss k) ≡ true = rw (same, k_is) (at_holder now at n below) in
    rw is h

changed : (ss : List Space) (copy : Option Copy) (k : ℕ) (x s : Space) → IsKept ss copy → k < length ss → x ≡ slice_index_or ss k x
    → (IsSpace x → IsSpace s) → s.base ≡ x.base → s.end ≡ x.end → length x.bytes ≤ length s.bytes → IsKept (slice_set ss k s) copy
changed ss copy k x s kept lt e ok b f grows =
    let is = read_at ss k x lt e in
    let was : IsSpace x = rw is (kept.laid.each k lt) in
    kept_set ss copy k s kept lt (ok was) (b ∙ ap (λ v. v.base) is) (f ∙ ap (λ v. v.end) is) (rw (← is) grows)

undo_same : (ss : List Space) (copy : Option Copy) (undo : Option Begun) (k : ℕ) (x s : Space) → undo_of ss copy ≡ undo → k < length ss → x ≡ slice_index_or ss k x
    → s.base ≡ x.base → s.end ≡ x.end → IsOn undo k → undo_of (slice_set ss k s) copy ≡ undo
undo_same ss copy undo k x s u lt e b f on =
    let is = read_at ss k x lt e in
    undo_set ss copy k s lt (b ∙ ap (λ v. v.base) is) (f ∙ ap (λ v. v.end) is) (rw u on) ∙ u

-- after a write
pub written : (ss now : List Space) (copy : Option Copy) (at : ℕ) (ys : List ℕ) (k : ℕ) (x s : Space) → ss ≡ now → IsKept ss copy → k ≡ holder now at (length ys)
    → IsBelow now at (length ys) → x ≡ slice_index_or ss k x → s ≡ with_bytes at ys x → IsKept (slice_set ss k s) copy
written ss now copy at ys k x s same kept k_is below e put_is =
    let lt : k < length ss = rw (same, k_is) below in
    let h = has_bytes ss now at (length ys) k x same k_is below e in
    rw put_is (changed ss copy k x (with_bytes at ys x) kept lt e (λ ok. space_put at ys x ok h) refl refl (omega (arith, length-put at ys x h)))

pub written_undo : (ss now : List Space) (copy : Option Copy) (undo : Option Begun) (at : ℕ) (ys : List ℕ) (k : ℕ) (x s : Space) → ss ≡ now → undo_of ss copy ≡ undo
    → k ≡ holder now at (length ys) → IsBelow now at (length ys) → IsOn undo (holder now at (length ys)) → x ≡ slice_index_or ss k x → s ≡ with_bytes at ys x
    → undo_of (slice_set ss k s) copy ≡ undo
written_undo ss now copy undo at ys k x s same u k_is below on e put_is =
    let lt : k < length ss = rw (same, k_is) below in
    rw put_is (undo_same ss copy undo k x (with_bytes at ys x) u lt e refl refl (rw k_is on))

-- after a bump
pub raised : (ss : List Space) (copy : Option Copy) (k n m : ℕ) (x s : Space) → IsKept ss copy → k < length ss → x ≡ slice_index_or ss k x → n % 8 ≡ 0 → m ≡ n
    → mark_of x + n ≤ x.end → s ≡ with_zeros m x → IsKept (slice_set ss k s) copy
raised ss copy k n m x s kept lt e whole m_is fits is =
    let long : length (x.bytes ++ replicate n 0) ≡ length x.bytes + n = simp (length-append, length-replicate) refl in
    rw (is, m_is) (changed ss copy k x (with_zeros n x) kept lt e (λ ok. space_grown n x ok whole fits) refl refl (omega (arith, long)))

pub raised_undo : (ss : List Space) (copy : Option Copy) (undo : Option Begun) (k m : ℕ) (x s : Space) → undo_of ss copy ≡ undo → k < length ss → IsOn undo k
    → x ≡ slice_index_or ss k x → s ≡ with_zeros m x → undo_of (slice_set ss k s) copy ≡ undo
raised_undo ss copy undo k m x s u lt on e is = rw is (undo_same ss copy undo k x (with_zeros m x) u lt e refl refl on)

-- after an abort
pub restored : (ss : List Space) (copy rest : Option Copy) (k : ℕ) (bs : List ℕ) (x s : Space) → IsKept ss copy → rest ≡ None
    → copy ≡ Some (record { space = k; bytes = bs }) → x ≡ slice_index_or ss k x → s ≡ record x { bytes = bs } → IsKept (slice_set ss k s) rest
restored ss copy rest k bs x s kept none some e is =
    let old : IsCopy ss (record { space = k; bytes = bs }) = kept.saved (record { space = k; bytes = bs }) some in
    let same = read_at ss k x old.there e in
    let was : IsSpace x = rw same (kept.laid.each k old.there) in
    let shorter : length bs ≤ length x.bytes = rw same old.shorter in
    rw (none, is) (kept_idle ss copy k (record x { bytes = bs }) kept (space_cut bs x was old.whole shorter) (ap (λ v. v.base) same) (ap (λ v. v.end) same))

-- after a space was added
pub added : (ss now new : List Space) (copy : Option Copy) (s : Space) (base end : ℕ) (bs : List ℕ) → ss ≡ now → IsKept ss copy → undo_of ss copy ≡ None → length now < 9
    → s ≡ record { base = base; bytes = bs; end = end } → new ≡ ss ++ s ∷ [] → IsSpace (record { base = base; bytes = bs; end = end }) → IsFree now base end → IsKept new copy
added ss now new None s base end bs same kept idle few s_is new_is ok free =
    let free_here : IsFree ss base end = rw same free in
    rw (new_is, s_is) (kept_push ss (record { base = base; bytes = bs; end = end }) kept (rw same few) ok free_here)
added ss now new (Some c) s base end bs same kept idle few s_is new_is ok free = cc

-- the beginning of a transaction beside the present spaces
begun_of : (ss : List Space) (c : Copy) → AreLaid ss → IsCopy ss c → IsBegun ss (record { space = c.space; before = taken_back ss c })
begun_of ss c laid copy =
    let old : Space = record (space_at ss c.space) { bytes = c.bytes } in
    let here : space_at (slice_set ss c.space (record (space_at ss c.space) { bytes = c.bytes })) c.space ≡ record (space_at ss c.space) { bytes = c.bytes } =
    get_or-set_same ss c.space (record (space_at ss c.space) { bytes = c.bytes }) no_space copy.there in
    record {
      there = copy.there;
      as_many = length-set ss c.space (record (space_at ss c.space) { bytes = c.bytes });
      others = λ j other. get_or-set_other ss c.space j (record (space_at ss c.space) { bytes = c.bytes }) no_space other;
      same_base = ap (λ v. v.base) here;
      same_end = ap (λ v. v.end) here;
      grew = rw here (omega (arith, copy.shorter));
      laid = laid_set ss c.space (record (space_at ss c.space) { bytes = c.bytes }) laid (space_cut c.bytes (space_at ss c.space) (laid.each c.space copy.there) copy.whole copy.shorter) refl refl;
    }

pub begun_is : (ss : List Space) (copy : Option Copy) (u : Begun) → IsKept ss copy → undo_of ss copy ≡ Some u → IsBegun ss u
begun_is ss None u kept e = cc
begun_is ss (Some c) u kept e =
    let is : record { space = c.space; before = taken_back ss c } ≡ u = cc in
    subst (IsBegun ss) is (begun_of ss c kept.laid (kept.saved c refl))
