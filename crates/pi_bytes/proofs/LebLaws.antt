-- Laws of leb128 numbers at a place, by the definitions alone.
use Rattle.std.proofs.Common.{◌≡◌, ℕ, zero, suc, ◌+◌, ◌*◌, ◌%◌, ◌<◌, ◌≤◌, List, [], ◌∷◌, ◌++◌, length, Ok, Err, true, refl, sym, arith, append_assoc, length-append}
use Rattle.std.specs.Prelude.{ℤ, nat_lt, All, ◌↔◌}
use Rattle.std.proofs.lemmas.Bool.Decides.{nat_tests}
use Rattle.std.proofs.lemmas.List.Elements.{All-head, All-tail}
use Rattle.pi_bytes.specs.declared.fault.ReadFault.TheVariants.{Short, LongLeb}
use Rattle.pi_bytes.specs.Place.{Place, bytes_from, place_behind, bytes_between}
use Rattle.pi_bytes.specs.Leb.{ends_uleb, ends_sleb, uleb_by, sleb_by, sevens, signed_sevens, IsWhole, EndsInside, IsTooLong, uleb_at, sleb_at}
use Rattle.pi_bytes.proofs.Lebs.{goes_on, signed_more, uleb_value, uleb_whole, uleb_moved, uleb_short, uleb_long, short_uleb, long_uleb, sleb_value, sleb_whole, sleb_moved, sleb_short, sleb_long, short_sleb, long_sleb}

no_more : (b : ℕ) → b < 128 → nat_lt b 128 ≡ true
no_more b h = grind (arith, nat_tests)

uleb_low : (b : ℕ) → b < 128 → b ≡ b % 128 + 128 * 0
uleb_low b h = omega arith

some : (front : List ℕ) (last : ℕ) → 1 ≤ length (front ++ last ∷ [])
some front last = omega (arith, length-append front (last ∷ []))

uleb_front : (front : List ℕ) (last : ℕ) (rest : List ℕ) (more : ℕ) → All (λ b. 128 ≤ b) front → last < 128 → length front ≤ more
    → (length front ≡ more → ends_uleb last ≡ true)
    → uleb_by more (front ++ last ∷ rest) ≡ Ok (sevens (front ++ last ∷ []), length front + 1)
uleb_front [] last rest zero all lt few fits = rw (fits refl, ← uleb_low last lt) refl
uleb_front [] last rest (suc more) all lt few fits = rw (no_more last lt, ← uleb_low last lt) refl
uleb_front (b ∷ front) last rest zero all lt few fits = absurd (omega arith)
uleb_front (b ∷ front) last rest (suc more) all lt few fits =
    let above = uleb_front front last rest more (All-tail (λ c. 128 ≤ c) b front all) lt (omega arith) (λ e. fits (omega arith)) in
    let same : length front + 1 + 1 ≡ suc (length front) + 1 = omega arith in
    rw (goes_on b (All-head (λ c. 128 ≤ c) b front all), above, same) refl

-- a whole number is read, whatever follows
pub uleb_again : (p : Place) (bytes rest : List ℕ) → IsWhole ends_uleb 4 bytes → bytes_from p ≡ bytes ++ rest
    → uleb_at p ≡ Ok (sevens bytes, place_behind (length bytes) p)
unfolding uleb_at
uleb_again p bytes rest w e =
    let read = uleb_front w.front w.last rest 4 w.go_on w.is_last w.few w.fits in
    let len : length w.front + 1 ≡ length (w.front ++ w.last ∷ []) = sym (length-append w.front (w.last ∷ [])) in
    rw (e, w.parts, append_assoc w.front (w.last ∷ []) rest, read, len) refl

pub uleb_ok_value : (p q : Place) (x : ℕ) → uleb_at p ≡ Ok (x, q) → x ≡ sevens (bytes_between p q)
uleb_ok_value p q x e = uleb_value p q (Ok x) e

pub uleb_ok_whole : (p q : Place) (x : ℕ) → uleb_at p ≡ Ok (x, q) → IsWhole ends_uleb 4 (bytes_between p q)
uleb_ok_whole p q x e = uleb_whole p q (Ok x) e

pub uleb_ok_moved : (p q : Place) (x : ℕ) → uleb_at p ≡ Ok (x, q) → q ≡ place_behind (length (bytes_between p q)) p
uleb_ok_moved p q x e = uleb_moved p q (Ok x) e

pub uleb_err_short : (p : Place) → (uleb_at p ≡ Err Short) ↔ EndsInside 4 (bytes_from p)
uleb_err_short p = (λ e. (uleb_short p p (Err Short) e).0 refl, λ w. short_uleb p w)

pub uleb_err_long : (p : Place) → (uleb_at p ≡ Err LongLeb) ↔ IsTooLong ends_uleb 4 (bytes_from p)
uleb_err_long p = (λ e. (uleb_long p p (Err LongLeb) e).0 refl, λ w. long_uleb p w)

sleb_front : (front : List ℕ) (last : ℕ) (rest : List ℕ) (more : ℕ) → All (λ b. 128 ≤ b) front → last < 128 → length front ≤ more
    → (length front ≡ more → ends_sleb last ≡ true)
    → sleb_by more (front ++ last ∷ rest) ≡ Ok (signed_sevens (front ++ last ∷ []), length front + 1)
sleb_front [] last rest zero all lt few fits = rw (fits refl) refl
sleb_front [] last rest (suc more) all lt few fits = rw (no_more last lt) refl
sleb_front (b ∷ front) last rest zero all lt few fits = absurd (omega arith)
sleb_front (b ∷ front) last rest (suc more) all lt few fits =
    let above = sleb_front front last rest more (All-tail (λ c. 128 ≤ c) b front all) lt (omega arith) (λ e. fits (omega arith)) in
    let same : length front + 1 + 1 ≡ suc (length front) + 1 = omega arith in
    rw (goes_on b (All-head (λ c. 128 ≤ c) b front all), above, same, signed_more b (front ++ last ∷ []) (some front last)) refl

-- a whole number is read, whatever follows
pub sleb_again : (p : Place) (bytes rest : List ℕ) → IsWhole ends_sleb 4 bytes → bytes_from p ≡ bytes ++ rest
    → sleb_at p ≡ Ok (signed_sevens bytes, place_behind (length bytes) p)
unfolding sleb_at
sleb_again p bytes rest w e =
    let read = sleb_front w.front w.last rest 4 w.go_on w.is_last w.few w.fits in
    let len : length w.front + 1 ≡ length (w.front ++ w.last ∷ []) = sym (length-append w.front (w.last ∷ [])) in
    rw (e, w.parts, append_assoc w.front (w.last ∷ []) rest, read, len) refl

pub sleb_ok_value : (p q : Place) (x : ℤ) → sleb_at p ≡ Ok (x, q) → x ≡ signed_sevens (bytes_between p q)
sleb_ok_value p q x e = sleb_value p q (Ok x) e

pub sleb_ok_whole : (p q : Place) (x : ℤ) → sleb_at p ≡ Ok (x, q) → IsWhole ends_sleb 4 (bytes_between p q)
sleb_ok_whole p q x e = sleb_whole p q (Ok x) e

pub sleb_ok_moved : (p q : Place) (x : ℤ) → sleb_at p ≡ Ok (x, q) → q ≡ place_behind (length (bytes_between p q)) p
sleb_ok_moved p q x e = sleb_moved p q (Ok x) e

pub sleb_err_short : (p : Place) → (sleb_at p ≡ Err Short) ↔ EndsInside 4 (bytes_from p)
sleb_err_short p = (λ e. (sleb_short p p (Err Short) e).0 refl, λ w. short_sleb p w)

pub sleb_err_long : (p : Place) → (sleb_at p ≡ Err LongLeb) ↔ IsTooLong ends_sleb 4 (bytes_from p)
sleb_err_long p = (λ e. (sleb_long p p (Err LongLeb) e).0 refl, λ w. long_sleb p w)
