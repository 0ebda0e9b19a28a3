-- Sections of parts: what is laid in two goes, and one more class of a loop.
use Rattle.std.proofs.Common.{◌≡◌, ℕ, ◌+◌, ◌<◌, List, [], ◌∷◌, ◌++◌, length, drop, get_or, refl, sym, ap, ◌∙◌, arith, append_assoc, length-append}
use Rattle.std.specs.Prelude.{Bool, true, false, ◌&&◌, ◌==◌, if◌then◌else◌}
use Rattle.std.specs.List.{flat_map}
use Rattle.std.proofs.lemmas.Bool.Decides.{nat_tests}
use Rattle.std.proofs.lemmas.List.{drop_more}
use Rattle.std.proofs.lemmas.List.Folds.{list_all-append}
use Rattle.pi_parts.specs.Parts.{offsets, aligned, aligned_offsets, padding, zeros}
use Rattle.pi_parts.proofs.Stands.{length_zeros}
use Rattle.pi_dextables.specs.Rows.{bodies_in, bodies_of, all_bodies, all_rows, class_rows_with, class_data}
use Rattle.pi_dextables.specs.declared.tables.Body.{Body}
use Rattle.pi_dextables.specs.declared.tables.Class.{Class}
use Rattle.pi_dexlay.specs.Heads.{all_fit}
use Rattle.pi_dexlay.proofs.Steps.{flat_step, offsets_step}

-- things that are laid in two goes
aligned_both : {X : Type 0} (f : X → List ℕ) (at next : ℕ) (xs ys : List X) → next ≡ at + length (aligned f at xs)
    → aligned f at (xs ++ ys) ≡ aligned f at xs ++ aligned f next ys
aligned_both f at next [] ys e = ap (λ (k : ℕ). aligned f k ys) (let z : at ≡ next = omega arith in z)
aligned_both f at next (x ∷ xs) ys e =
    let z = zeros (padding at) in
    let on = at + padding at + length (f x) in
    let tail = aligned f on xs in
    let lz : length z ≡ padding at = length_zeros (padding at) in
    let l1 : length (f x ++ tail) ≡ length (f x) + length tail = length-append (f x) tail in
    let l2 : length (z ++ (f x ++ tail)) ≡ length z + length (f x ++ tail) = length-append z (f x ++ tail) in
    let more : aligned f on (xs ++ ys) ≡ tail ++ aligned f next ys = aligned_both f on next xs ys (omega (arith, lz, l1, l2, e)) in
    ap (λ y. z ++ (f x ++ y)) more ∙ ap (λ y. z ++ y) (sym (append_assoc (f x) tail (aligned f next ys)))
    ∙ sym (append_assoc z (f x ++ tail) (aligned f next ys))

aligned_offsets_both : {X : Type 0} (f : X → List ℕ) (at next : ℕ) (xs ys : List X) → next ≡ at + length (aligned f at xs)
    → aligned_offsets f at (xs ++ ys) ≡ aligned_offsets f at xs ++ aligned_offsets f next ys
aligned_offsets_both f at next [] ys e = ap (λ (k : ℕ). aligned_offsets f k ys) (let z : at ≡ next = omega arith in z)
aligned_offsets_both f at next (x ∷ xs) ys e =
    let z = zeros (padding at) in
    let on = at + padding at + length (f x) in
    let tail = aligned f on xs in
    let lz : length z ≡ padding at = length_zeros (padding at) in
    let l1 : length (f x ++ tail) ≡ length (f x) + length tail = length-append (f x) tail in
    let l2 : length (z ++ (f x ++ tail)) ≡ length z + length (f x ++ tail) = length-append z (f x ++ tail) in
    ap (λ y. (at + padding at) ∷ y) (aligned_offsets_both f on next xs ys (omega (arith, lz, l1, l2, e)))

-- the next things of those that are left
pub aligned_go : {X : Type 0} (f : X → List ℕ) (base : ℕ) (left front rest : List X) (bytes new whole : List ℕ) → left ≡ front ++ rest
    → new ≡ bytes ++ aligned f (base + length bytes) front → bytes ++ aligned f (base + length bytes) left ≡ whole
    → new ++ aligned f (base + length new) rest ≡ whole
aligned_go f base left front rest bytes new whole e put laid =
    let at = base + length bytes in
    let mid = aligned f at front in
    let len : length new ≡ length bytes + length mid = ap length put ∙ length-append bytes mid in
    let next : base + length new ≡ at + length mid = omega (arith, len) in
    ap (λ z. z ++ aligned f (base + length new) rest) put ∙ append_assoc bytes mid (aligned f (base + length new) rest)
    ∙ ap (λ z. bytes ++ z) (sym (aligned_both f at (base + length new) front rest next)) ∙ ap (λ z. bytes ++ aligned f at z) (sym e) ∙ laid

pub aligned_offsets_go : {X : Type 0} (f : X → List ℕ) (base : ℕ) (left front rest : List X) (bytes new done more all : List ℕ) → left ≡ front ++ rest
    → new ≡ bytes ++ aligned f (base + length bytes) front → more ≡ done ++ aligned_offsets f (base + length bytes) front
    → done ++ aligned_offsets f (base + length bytes) left ≡ all → more ++ aligned_offsets f (base + length new) rest ≡ all
aligned_offsets_go f base left front rest bytes new done more all e put told laid =
    let at = base + length bytes in
    let mid = aligned f at front in
    let here = aligned_offsets f at front in
    let len : length new ≡ length bytes + length mid = ap length put ∙ length-append bytes mid in
    let next : base + length new ≡ at + length mid = omega (arith, len) in
    ap (λ z. z ++ aligned_offsets f (base + length new) rest) told ∙ append_assoc done here (aligned_offsets f (base + length new) rest)
    ∙ ap (λ z. done ++ z) (sym (aligned_offsets_both f at (base + length new) front rest next)) ∙ ap (λ z. done ++ aligned_offsets f at z) (sym e) ∙ laid

and_twice : (a b c : Bool) → ((a && b) && c) ≡ (a && (b && c))
and_twice true b c = refl
and_twice false b c = refl

pub fit_go : (left front rest : List Body) (fits now whole : Bool) → left ≡ front ++ rest → now ≡ (fits && all_fit front) → (fits && all_fit left) ≡ whole → (now && all_fit rest) ≡ whole
fit_go left front rest fits now whole e put laid =
    ap (λ z. z && all_fit rest) put ∙ and_twice fits (all_fit front) (all_fit rest)
    ∙ ap (λ z. fits && z) (sym (ap all_fit e ∙ list_all-append _ front rest)) ∙ laid

-- the codes of one more class
pub class_more : (i : ℕ) (classes : List Class) (c : Class) → i < length classes → c ≡ get_or classes i c
    → all_bodies (drop i classes) ≡ bodies_in c.directs ++ (bodies_in c.virtuals ++ all_bodies (drop (i + 1) classes))
class_more i classes c lt is =
    ap all_bodies (drop_more classes i c lt ∙ ap (λ z. z ∷ drop (i + 1) classes) (sym is))
    ∙ append_assoc (bodies_in c.directs) (bodies_in c.virtuals) (all_bodies (drop (i + 1) classes))

-- a thing that ends where it begins has no bytes
place_between : (b e base n : ℕ) → b ≡ base → e ≡ base + n → (if b == e then 0 else b) ≡ (if n == 0 then 0 else base)
place_between b e base n h1 h2 = grind (arith, nat_tests)

-- the class data of one more class
rows_more : (i : ℕ) (classes : List Class) (c : Class) (codes left : List ℕ) → i < length classes → c ≡ get_or classes i c → left ≡ drop (length (bodies_of c)) codes
    → all_rows codes (drop i classes) ≡ class_rows_with codes c ∷ all_rows left (drop (i + 1) classes)
rows_more i classes c codes left lt is next =
    ap (all_rows codes) (drop_more classes i c lt ∙ ap (λ z. z ∷ drop (i + 1) classes) (sym is))
    ∙ ap (λ z. class_rows_with codes c ∷ all_rows z (drop (i + 1) classes)) (sym next)

pub rows_step : (i : ℕ) (classes : List Class) (c : Class) (codes left bytes new whole : List ℕ) → i < length classes → c ≡ get_or classes i c
    → new ≡ bytes ++ class_data (class_rows_with codes c) → left ≡ drop (length (bodies_of c)) codes
    → bytes ++ flat_map class_data (all_rows codes (drop i classes)) ≡ whole
    → new ++ flat_map class_data (all_rows left (drop (i + 1) classes)) ≡ whole
rows_step i classes c codes left bytes new whole lt is put next laid =
    let row = class_rows_with codes c in
    flat_step class_data 0 (row ∷ all_rows left (drop (i + 1) classes)) row bytes new whole (omega arith) refl put
    (ap (λ z. bytes ++ flat_map class_data z) (sym (rows_more i classes c codes left lt is next)) ∙ laid)

pub row_offsets_step : (base i : ℕ) (classes : List Class) (c : Class) (codes left bytes new done more all : List ℕ) (at b e : ℕ) → i < length classes → c ≡ get_or classes i c
    → new ≡ bytes ++ class_data (class_rows_with codes c) → left ≡ drop (length (bodies_of c)) codes
    → b ≡ base + length bytes → e ≡ base + length new → at ≡ (if b == e then 0 else b) → more ≡ done ++ at ∷ []
    → done ++ offsets class_data (base + length bytes) (all_rows codes (drop i classes)) ≡ all
    → more ++ offsets class_data (base + length new) (all_rows left (drop (i + 1) classes)) ≡ all
row_offsets_step base i classes c codes left bytes new done more all at b e lt is put next begins ends place told laid =
    let row = class_rows_with codes c in
    let len : length new ≡ length bytes + length (class_data row) = ap length put ∙ length-append bytes (class_data row) in
    let end : e ≡ base + length bytes + length (class_data row) = omega (arith, len) in
    offsets_step class_data base 0 (row ∷ all_rows left (drop (i + 1) classes)) row bytes new done more all at (omega arith) refl put
    (place ∙ place_between b e (base + length bytes) (length (class_data row)) begins end) told
    (ap (λ z. done ++ offsets class_data (base + length bytes) z) (sym (rows_more i classes c codes left lt is next)) ∙ laid)
