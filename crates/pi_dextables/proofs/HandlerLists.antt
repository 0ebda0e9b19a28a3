-- The lists of handlers of a code, as they are read from their bytes.
use Rattle.std.proofs.Common.{◌≡◌, ℕ, zero, suc, ◌+◌, ◌<◌, ◌^◌, true, List, [], ◌∷◌, ◌++◌, length, map, Option, Some, None, inl, inr, refl, sym, ap, subst, ◌∙◌, length-append, arith}
use Rattle.std.specs.Prelude.{◌⊎◌, All, IfSome, nat_abs, nat_lt, pos, negsuc, ℤ, is_some}
use Rattle.std.specs.List.{flat_map, list_all}
use Rattle.std.proofs.lemmas.List.Elements.{All-head, All-tail}
use Rattle.std.proofs.lemmas.Bool.Decides.{nat_tests}
use Rattle.pi_bytes.specs.Leb.{sleb_at}
use Rattle.pi_insn.specs.Chain.{◌>>=◌}
use Rattle.pi_format.specs.Rules.Rows.{readable}
use Rattle.pi_format.specs.Rules.CodeItems.{HandlerList, handler_at, handler_holds, handlers_from, last_handler, has_last, handler_list, lists_from, handler_lists}
use Rattle.pi_parts.specs.Lebs.{uleb_bytes, sleb_bytes, negative_bytes}
use Rattle.pi_parts.proofs.Stands.{Stands, stands_left, stands_right}
use Rattle.pi_parts.proofs.ReadBack.{place, sleb_reads, negative_reads}
use Rattle.pi_dextables.specs.declared.tables.Catch.{Catch}
use Rattle.pi_dextables.specs.declared.tables.Catches.{Catches}
use Rattle.pi_dextables.specs.Codes.{catch_bytes, size_bytes, last_bytes, catches_bytes, lists_bytes, read_handler, read_lists}
use Rattle.pi_dextables.specs.Writable.{IsWord, CatchFits, CatchesFit}
use Rattle.pi_dextables.specs.Said.{held, last_holds, handlers_hold}
use Rattle.pi_dextables.proofs.Readers.{ReadsSome, held_then, held_map, held_if, held_test, uleb_readable, behind_both}

-- a handler
handler_reads : (h : Catch) → CatchFits h → ReadsSome handler_at (catch_bytes h) (read_handler h)
unfolding handler_at
handler_reads h fits file at s =
    let small : h.ty < 2 ^ 32 = (let lt : h.ty < 2 ^ 16 = fits.ty in omega (arith, lt)) in
    let one = uleb_readable h.ty small file at (stands_left file (uleb_bytes h.ty) (uleb_bytes h.to) at s) in
    let two = uleb_readable h.to fits.to file (at + length (uleb_bytes h.ty)) (stands_right file (uleb_bytes h.ty) (uleb_bytes h.to) at (at + length (uleb_bytes h.ty)) refl s) in
    rw one (rw two (ap (λ p. Some (read_handler h, place file p)) (behind_both (uleb_bytes h.ty) (uleb_bytes h.to) at)))

-- typed handlers one behind the other
handlers_read : (file : List ℕ) (units : ℕ) (hs : List Catch) (at : ℕ) → All CatchFits hs → Stands file at (flat_map catch_bytes hs)
    → handlers_from file units (length hs) (place file at)
    ≡ held (list_all (handler_holds file units) (map read_handler hs)) (map read_handler hs, place file (at + length (flat_map catch_bytes hs)))
handlers_read file units [] at all s = (let e : at ≡ at + 0 = omega arith in ap (λ p. Some ([], place file p)) e)
handlers_read file units (h ∷ hs) at all s =
    let a = catch_bytes h in
    let rest = flat_map catch_bytes hs in
    let others = handlers_read file units hs (at + length a) (All-tail CatchFits h hs all) (stands_right file a rest at (at + length a) refl s) in
    let test = list_all (handler_holds file units) (map read_handler hs) in
    rw (handler_reads h (All-head CatchFits h hs all) file at (stands_left file a rest at s))
    (held_if (handler_holds file units (read_handler h)) test (map read_handler (h ∷ hs), place file (at + length (a ++ rest)))
    (handlers_from file units (length hs) (place file (at + length a)) >>= (λ o. Some (read_handler h ∷ o.0, o.1)))
    (held_map test (map read_handler hs, place file (at + length a + length rest)) (handlers_from file units (length hs) (place file (at + length a))) (λ o. (read_handler h ∷ o.0, o.1)) others
    ∙ ap (λ p. held test (map read_handler (h ∷ hs), place file p)) (behind_both a rest at)))

-- the last handler
last_reads : (file : List ℕ) (units : ℕ) (last : Option ℕ) (at : ℕ) → IfSome last IsWord → Stands file at (last_bytes last)
    → last_handler file units (is_some last) (place file at) ≡ held (last_holds units last) (last, place file (at + length (last_bytes last)))
last_reads file units None at fits s = (let e : at ≡ at + 0 = omega arith in ap (λ p. Some (None, place file p)) e)
last_reads file units (Some to) at fits s = rw (uleb_readable to fits file at s) (held_test (nat_lt to units) (Some to, place file (at + length (uleb_bytes to))))

-- the size of a list, with its sign
abbrev size_of : ℕ → Option ℕ → ℤ
size_of n None = pos n
size_of zero (Some to) = pos 0
size_of (suc n) (Some to) = negsuc n

same_zero : negative_bytes 0 ≡ sleb_bytes 0
unfolding negative_bytes sleb_bytes
same_zero = refl

size_reads : (n : ℕ) (last : Option ℕ) → n < 2 ^ 27 → ReadsSome (λ p. readable (sleb_at p)) (size_bytes n last) (size_of n last)
size_reads n None lt file at s = ap readable (sleb_reads n (omega arith) file at s)
size_reads zero (Some to) lt file at s =
    rw same_zero (ap readable (sleb_reads 0 (omega arith) file at (subst (λ part. Stands file at part) same_zero s)))
size_reads (suc n) (Some to) lt file at s =
    let one : n + 1 ≡ suc n = omega arith in
    subst (λ k. readable (sleb_at (place file at)) ≡ Some (negsuc n, place file (at + length (negative_bytes k)))) one
    (ap readable (negative_reads n (omega arith) file at (subst (λ k. Stands file at (negative_bytes k)) (sym one) s)))

size_abs : (n : ℕ) (last : Option ℕ) → nat_abs (size_of n last) ≡ n
size_abs n None = refl
size_abs zero (Some to) = refl
size_abs (suc n) (Some to) = refl

-- a list of one handler or more has a last one where its size says so
size_last : (n : ℕ) (last : Option ℕ) → (0 < n) ⊎ (is_some last ≡ true) → has_last (size_of n last) ≡ is_some last
size_last n None (inl lt) = grind (arith, nat_tests)
size_last n None (inr e) = cc
size_last zero (Some to) some = refl
size_last (suc n) (Some to) some = refl

-- a list, as the format reads it from an offset on
abbrev read_list : ℕ → Catches → HandlerList
read_list at l = record { at = at; typed = map read_handler l.typed; last = l.last }

behind_three : (a b c : List ℕ) (at : ℕ) → at + length a + length b + length c ≡ at + length (a ++ (b ++ c))
behind_three a b c at = simp length-append (omega arith)

list_reads : (file : List ℕ) (units : ℕ) (l : Catches) (at : ℕ) → CatchesFit l → length l.typed < 2 ^ 27 → Stands file at (catches_bytes l)
    → handler_list file units (place file at)
    ≡ held (handlers_hold file units (read_list at l)) (read_list at l, place file (at + length (catches_bytes l)))
unfolding handler_list catches_bytes
list_reads file units l at fits lt s =
    let a = size_bytes (length l.typed) l.last in
    let b = flat_map catch_bytes l.typed in
    let c = last_bytes l.last in
    let s2 = stands_right file a (b ++ c) at (at + length a) refl s in
    let s3 = stands_right file b c (at + length a) (at + length a + length b) refl s2 in
    let size = size_reads (length l.typed) l.last lt file at (stands_left file a (b ++ c) at s) in
    let typed = handlers_read file units l.typed (at + length a) fits.typed (stands_left file b c (at + length a) s2) in
    let last = last_reads file units l.last (at + length a + length b) fits.last s3 in
    let p3 = place file (at + length a + length b + length c) in
    let typed_hold = list_all (handler_holds file units) (map read_handler l.typed) in
    rw (size, size_abs (length l.typed) l.last, size_last (length l.typed) l.last fits.some)
    (held_then typed_hold (last_holds units l.last) (map read_handler l.typed, place file (at + length a + length b)) (read_list at l, p3)
    (handlers_from file units (length l.typed) (place file (at + length a)))
    (λ t. last_handler file units (is_some l.last) t.1 >>= (λ z. Some (record { at = at; typed = t.0; last = z.0 }, z.1)))
    typed
    (held_map (last_holds units l.last) (l.last, p3) (last_handler file units (is_some l.last) (place file (at + length a + length b)))
    (λ z. (record { at = at; typed = map read_handler l.typed; last = z.0 }, z.1)) last)
    ∙ ap (λ p. held (handlers_hold file units (read_list at l)) (read_list at l, place file p)) (behind_three a b c at))

-- lists one behind the other
lists_after : (file : List ℕ) (units : ℕ) (lists : List Catches) (at : ℕ) → All CatchesFit lists → All (λ l. length l.typed < 2 ^ 27) lists
    → Stands file at (flat_map catches_bytes lists)
    → lists_from file units (length lists) (place file at) ≡ held (list_all (handlers_hold file units) (read_lists at lists)) (read_lists at lists)
lists_after file units [] at all few s = refl
lists_after file units (l ∷ lists) at all few s =
    let a = catches_bytes l in
    let rest = flat_map catches_bytes lists in
    let next = at + length a in
    let first = list_reads file units l at (All-head CatchesFit l lists all) (All-head (λ (l : Catches). length l.typed < 2 ^ 27) l lists few) (stands_left file a rest at s) in
    let others = lists_after file units lists next (All-tail CatchesFit l lists all) (All-tail (λ (l : Catches). length l.typed < 2 ^ 27) l lists few) (stands_right file a rest at next refl s) in
    let test = list_all (handlers_hold file units) (read_lists next lists) in
    held_then (handlers_hold file units (read_list at l)) test (read_list at l, place file next) (read_lists at (l ∷ lists))
    (handler_list file units (place file at)) (λ r. lists_from file units (length lists) r.1 >>= (λ o. Some (r.0 ∷ o)))
    first
    (held_map test (read_lists next lists) (lists_from file units (length lists) (place file next)) (λ o. read_list at l ∷ o) others)

-- the lists of a code
pub lists_read : (file : List ℕ) (units at : ℕ) (lists : List Catches) → All CatchesFit lists → length lists < 2 ^ 32
    → All (λ l. length l.typed < 2 ^ 27) lists → Stands file at (lists_bytes lists)
    → handler_lists file units at
    ≡ held (list_all (handlers_hold file units) (read_lists (at + length (uleb_bytes (length lists))) lists))
    (read_lists (at + length (uleb_bytes (length lists))) lists)
unfolding handler_lists
lists_read file units at lists all many few s =
    let a = uleb_bytes (length lists) in
    let rest = flat_map catches_bytes lists in
    rw (uleb_readable (length lists) many file at (stands_left file a rest at s))
    (lists_after file units lists (at + length a) all few (stands_right file a rest at (at + length a) refl s))
