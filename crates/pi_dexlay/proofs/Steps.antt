-- Parts put one behind the other, and one more thing of a loop.
use Rattle.std.proofs.Common.{◌≡◌, ℕ, ◌+◌, ◌<◌, List, [], ◌∷◌, ◌++◌, length, drop, get_or, Option, Some, None, refl, sym, ap, subst, ◌∙◌, arith, append_assoc, length-append}
use Rattle.std.specs.Prelude.{All, ◌==◌, if◌then◌else◌}
use Rattle.std.specs.List.{flat_map}
use Rattle.std.proofs.lemmas.Bool.Decides.{nat_tests}
use Rattle.std.proofs.lemmas.List.{drop_more}
use Rattle.pi_parts.specs.Parts.{offsets, aligned, aligned_offsets, padding, zeros}
use Rattle.pi_parts.specs.Lebs.{uleb_bytes}
use Rattle.pi_parts.proofs.Stands.{length_offsets, length_zeros}
use Rattle.pi_parts.proofs.ReadBack.{few_sleb, few_negative}
use Rattle.pi_dextables.specs.Codes.{catches_bytes, catch_bytes, size_bytes, last_bytes, list_places}
use Rattle.pi_dextables.specs.Writable.{RangeFits}
use Rattle.pi_dextables.specs.declared.tables.Catches.{Catches}
use Rattle.pi_dextables.specs.declared.tables.Range.{Range}

pub join4 : (old a b c d o1 o2 o3 new : List ℕ) → o1 ≡ old ++ a → o2 ≡ o1 ++ b → o3 ≡ o2 ++ c → new ≡ o3 ++ d → new ≡ old ++ (a ++ (b ++ (c ++ d)))
join4 old a b c d o1 o2 o3 new h1 h2 h3 h4 = rw (h4, h3, h2, h1) (simp append_assoc refl)

-- one more thing that is laid behind the others
more_of : {X : Type 0} (xs : List X) (i : ℕ) (x : X) → i < length xs → x ≡ get_or xs i x → drop i xs ≡ x ∷ drop (i + 1) xs
more_of xs i x lt is = drop_more xs i x lt ∙ ap (λ z. z ∷ drop (i + 1) xs) (sym is)

pub flat_step : {X : Type 0} (f : X → List ℕ) (i : ℕ) (xs : List X) (x : X) (bytes new whole : List ℕ) → i < length xs → x ≡ get_or xs i x → new ≡ bytes ++ f x
    → bytes ++ flat_map f (drop i xs) ≡ whole → new ++ flat_map f (drop (i + 1) xs) ≡ whole
flat_step f i xs x bytes new whole lt is put laid =
    ap (λ z. z ++ flat_map f (drop (i + 1) xs)) put ∙ append_assoc bytes (f x) (flat_map f (drop (i + 1) xs))
    ∙ ap (λ z. bytes ++ flat_map f z) (sym (more_of xs i x lt is)) ∙ laid

pub offsets_step : {X : Type 0} (f : X → List ℕ) (base i : ℕ) (xs : List X) (x : X) (bytes new done more all : List ℕ) (at : ℕ) → i < length xs → x ≡ get_or xs i x
    → new ≡ bytes ++ f x → at ≡ (if length (f x) == 0 then 0 else base + length bytes) → more ≡ done ++ at ∷ []
    → done ++ offsets f (base + length bytes) (drop i xs) ≡ all → more ++ offsets f (base + length new) (drop (i + 1) xs) ≡ all
offsets_step f base i xs x bytes new done more all at lt is put place told laid =
    let len : length new ≡ length bytes + length (f x) = ap length put ∙ length-append bytes (f x) in
    let next : base + length new ≡ base + length bytes + length (f x) = omega (arith, len) in
    ap (λ z. z ++ offsets f (base + length new) (drop (i + 1) xs)) told ∙ append_assoc done (at ∷ []) (offsets f (base + length new) (drop (i + 1) xs))
    ∙ ap (λ (k : ℕ). done ++ (at ∷ offsets f k (drop (i + 1) xs))) next
    ∙ ap (λ (k : ℕ). done ++ (k ∷ offsets f (base + length bytes + length (f x)) (drop (i + 1) xs))) place
    ∙ ap (λ z. done ++ offsets f (base + length bytes) z) (sym (more_of xs i x lt is)) ∙ laid

pub aligned_step : {X : Type 0} (f : X → List ℕ) (base i : ℕ) (xs : List X) (x : X) (bytes mid new whole : List ℕ) → i < length xs → x ≡ get_or xs i x
    → mid ≡ bytes ++ zeros (padding (base + length bytes)) → new ≡ mid ++ f x
    → bytes ++ aligned f (base + length bytes) (drop i xs) ≡ whole → new ++ aligned f (base + length new) (drop (i + 1) xs) ≡ whole
aligned_step f base i xs x bytes mid new whole lt is pad put laid =
    let at = base + length bytes in
    let z = zeros (padding at) in
    let rest = drop (i + 1) xs in
    let lz : length z ≡ padding at = length_zeros (padding at) in
    let lm : length mid ≡ length bytes + length z = ap length pad ∙ length-append bytes z in
    let ln : length new ≡ length mid + length (f x) = ap length put ∙ length-append mid (f x) in
    let next : base + length new ≡ at + padding at + length (f x) = omega (arith, lz, lm, ln) in
    ap (λ k. new ++ aligned f k rest) next
    ∙ ap (λ y. y ++ aligned f (at + padding at + length (f x)) rest) (put ∙ ap (λ y. y ++ f x) pad)
    ∙ append_assoc (bytes ++ z) (f x) (aligned f (at + padding at + length (f x)) rest)
    ∙ append_assoc bytes z (f x ++ aligned f (at + padding at + length (f x)) rest)
    ∙ ap (λ y. bytes ++ aligned f at y) (sym (more_of xs i x lt is)) ∙ laid

pub aligned_offsets_step : {X : Type 0} (f : X → List ℕ) (base i : ℕ) (xs : List X) (x : X) (bytes mid new done more all : List ℕ) (at : ℕ) → i < length xs → x ≡ get_or xs i x
    → mid ≡ bytes ++ zeros (padding (base + length bytes)) → new ≡ mid ++ f x → at ≡ base + length mid → more ≡ done ++ at ∷ []
    → done ++ aligned_offsets f (base + length bytes) (drop i xs) ≡ all → more ++ aligned_offsets f (base + length new) (drop (i + 1) xs) ≡ all
aligned_offsets_step f base i xs x bytes mid new done more all at lt is pad put place told laid =
    let begin = base + length bytes in
    let z = zeros (padding begin) in
    let rest = drop (i + 1) xs in
    let lz : length z ≡ padding begin = length_zeros (padding begin) in
    let lm : length mid ≡ length bytes + length z = ap length pad ∙ length-append bytes z in
    let ln : length new ≡ length mid + length (f x) = ap length put ∙ length-append mid (f x) in
    let next : base + length new ≡ begin + padding begin + length (f x) = omega (arith, lz, lm, ln) in
    let here : at ≡ begin + padding begin = place ∙ omega (arith, lz, lm) in
    ap (λ k. more ++ aligned_offsets f k rest) next
    ∙ ap (λ y. y ++ aligned_offsets f (begin + padding begin + length (f x)) rest) told
    ∙ append_assoc done (at ∷ []) (aligned_offsets f (begin + padding begin + length (f x)) rest)
    ∙ ap (λ (k : ℕ). done ++ (k ∷ aligned_offsets f (begin + padding begin + length (f x)) rest)) here
    ∙ ap (λ y. done ++ aligned_offsets f begin y) (sym (more_of xs i x lt is)) ∙ laid

-- a thing with bytes has its place
pub place_of : (n at : ℕ) → 0 < n → at ≡ (if n == 0 then 0 else at)
place_of n at lt = grind (arith, nat_tests)

size_long : (n : ℕ) (last : Option ℕ) → 0 < length (size_bytes n last)
size_long n None = (few_sleb n).0
size_long n (Some to) = (few_negative n).0

pub catches_long : (l : Catches) → 0 < length (catches_bytes l)
unfolding catches_bytes
catches_long l =
    let size = size_bytes (length l.typed) l.last in
    let len = length-append size (flat_map catch_bytes l.typed ++ last_bytes l.last) in
    let some = size_long (length l.typed) l.last in
    omega (arith, len, some)

pub places_long : (lists : List Catches) → length (list_places lists) ≡ length lists
unfolding list_places
places_long lists = length_offsets catches_bytes (length (uleb_bytes (length lists))) lists

pub ranges_named : (lists : List Catches) (n : ℕ) (ranges : List Range) → n ≡ length lists → All (RangeFits lists) ranges → All (λ r. r.list < n) ranges
ranges_named lists n ranges e all = λ k d lt. subst (λ (m : ℕ). (get_or ranges k d).list < m) (sym e) ((all k d lt).list)
