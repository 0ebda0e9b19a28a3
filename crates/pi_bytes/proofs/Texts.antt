-- Steps of reading units, as the code's loop takes them.
use Rattle.std.proofs.Common.{◌≡◌, ℕ, zero, suc, ◌+◌, ◌-◌, ◌<◌, ◌≤◌, List, [], ◌∷◌, ◌++◌, drop, Some, None, Result, Ok, Err, true, false, refl, sym, ap, arith, append_assoc}
use Rattle.std.proofs.lemmas.List.{drop-drop, append-nil}
use Rattle.pi_bytes.specs.Mutf8.{unit_at, ends_text, with_front, units_from}

prefixed-prefixed : (us vs : List ℕ) (r : Result (List ℕ × ℕ) ℕ) → with_front us (with_front vs r) ≡ with_front (us ++ vs) r
prefixed-prefixed us vs (Ok x) = ap (λ (ws : List ℕ). Ok (ws, x.1)) (sym (append_assoc us vs x.0))
prefixed-prefixed us vs (Err at) = refl

goes_on_by : (n at : ℕ) (bytes us : List ℕ) (x : ℕ × ℕ) → unit_at bytes ≡ Some x
    → with_front us (units_from (suc n) at bytes) ≡ with_front (us ++ x.0 ∷ []) (units_from n (at + x.1) (drop x.1 bytes))
goes_on_by n at bytes us x e = rw e (prefixed-prefixed us (x.0 ∷ []) (units_from n (at + x.1) (drop x.1 bytes)))

stops_by : (n at : ℕ) (bytes us : List ℕ) → unit_at bytes ≡ None → with_front us (units_from (suc n) at bytes) ≡ Err at
stops_by n at bytes us e = rw e refl

ends_by : (at : ℕ) (bytes us : List ℕ) → ends_text bytes ≡ true → with_front us (units_from zero at bytes) ≡ Ok (us, at)
ends_by at bytes us e = rw e (ap (λ (vs : List ℕ). Ok (vs, at)) (append-nil us))

ends_not_by : (at : ℕ) (bytes us : List ℕ) → ends_text bytes ≡ false → with_front us (units_from zero at bytes) ≡ Err at
ends_not_by at bytes us e = rw e refl

-- behind a unit the rest is read
pub goes_on : (count i at : ℕ) (bytes us : List ℕ) (x : ℕ × ℕ) → i < count → unit_at (drop at bytes) ≡ Some x
    → with_front us (units_from (count - i) at (drop at bytes))
    ≡ with_front (us ++ x.0 ∷ []) (units_from (count - (i + 1)) (at + x.1) (drop (at + x.1) bytes))
goes_on count i at bytes us x lt e =
    let more : count - i ≡ suc (count - (i + 1)) = omega arith in
    let step = goes_on_by (count - (i + 1)) at (drop at bytes) us x e in
    rw more (rw (← drop-drop x.1 at bytes) step)

-- where no unit stands, reading stops
pub stops : (count i at : ℕ) (bytes us : List ℕ) → i < count → unit_at (drop at bytes) ≡ None
    → with_front us (units_from (count - i) at (drop at bytes)) ≡ Err at
stops count i at bytes us lt e =
    let more : count - i ≡ suc (count - (i + 1)) = omega arith in
    rw more (stops_by (count - (i + 1)) at (drop at bytes) us e)

-- behind all units stands the 0
pub ends : (count i at : ℕ) (bytes us : List ℕ) → count ≤ i → ends_text (drop at bytes) ≡ true
    → with_front us (units_from (count - i) at (drop at bytes)) ≡ Ok (us, at)
ends count i at bytes us le e =
    let done : count - i ≡ zero = omega arith in
    rw done (ends_by at (drop at bytes) us e)

-- or something else
pub ends_not : (count i at : ℕ) (bytes us : List ℕ) → count ≤ i → ends_text (drop at bytes) ≡ false
    → with_front us (units_from (count - i) at (drop at bytes)) ≡ Err at
ends_not count i at bytes us le e =
    let done : count - i ≡ zero = omega arith in
    rw done (ends_not_by at (drop at bytes) us e)
