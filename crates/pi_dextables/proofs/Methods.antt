-- The rows of the members of classes, and that the codes of their methods stand at the offsets that these rows have.
use Rattle.std.proofs.Common.{◌≡◌, ℕ, zero, suc, ◌+◌, ◌<◌, ◌≤◌, List, [], ◌∷◌, ◌++◌, length, drop, Option, Some, None, refl, sym, ap, subst, ◌∙◌, append_assoc, length-append, arith}
use Rattle.std.specs.Prelude.{All, IfSome, slice_get}
use Rattle.std.proofs.lemmas.List.{drop-drop}
use Rattle.std.proofs.lemmas.List.Elements.{All-head, All-tail, All-cons, All-nil, All-append}
use Rattle.pi_bytes.specs.Numbers.{most_bytes}
use Rattle.pi_format.specs.Rules.ClassData.{ClassRows}
use Rattle.pi_parts.specs.Parts.{zeros, padding, aligned, aligned_offsets}
use Rattle.pi_parts.proofs.Stands.{Stands, stands_left, stands_right, length_zeros}
use Rattle.pi_dextables.specs.declared.tables.Body.{Body}
use Rattle.pi_dextables.specs.declared.tables.Class.{Class}
use Rattle.pi_dextables.specs.declared.tables.MethodRow.{MethodRow}
use Rattle.pi_dextables.specs.declared.tables.Tables.{Tables}
use Rattle.pi_dextables.specs.Codes.{code_item}
use Rattle.pi_dextables.specs.Rows.{with_body, bodies_in, bodies_of, all_bodies, next_offset, offsets_left, method_rows, class_rows_with, all_rows}
use Rattle.pi_dextables.specs.Image.{codes_begin, codes_part, code_offsets, file_end}
use Rattle.pi_dextables.specs.Writable.{BodyFits, MethodFits, ClassFits, IsWritable, PlacesFit}
use Rattle.pi_dextables.specs.Said.{BodySaid, CodeSaid, MethodsSaid}
use Rattle.pi_dextables.proofs.Steps.{steps}
use Rattle.pi_dextables.proofs.Laid.{Laid}
use Rattle.pi_dextables.proofs.CodeItems.{ListsFit, body_said}

-- the item of each of the codes stands at the offset beside it
abbrev CodesSaid : List ℕ → List Body → List ℕ → Type 0
CodesSaid file [] offsets = Unit {0}
CodesSaid file (b ∷ bs) [] = ⊥
CodesSaid file (b ∷ bs) (o ∷ os) = BodySaid file o b × CodesSaid file bs os

codes_stand : (file : List ℕ) (bs : List Body) (at : ℕ) → Stands file at (aligned code_item at bs) → All BodyFits bs → All ListsFit bs
    → 0 < at → length file ≤ most_bytes → CodesSaid file bs (aligned_offsets code_item at bs)
codes_stand file [] at h fits places behind few = tt
codes_stand file (b ∷ bs) at h fits places behind few =
    let pad = zeros (padding at) in
    let here = at + padding at in
    let next = here + length (code_item b) in
    let rest = aligned code_item next bs in
    let h1 : Stands file here (code_item b ++ rest) = stands_right file pad (code_item b ++ rest) at here (ap (λ n. at + n) (sym (length_zeros (padding at)))) h in
    let h2 : Stands file next rest = stands_right file (code_item b) rest here next refl h1 in (
      body_said file here b (stands_left file (code_item b) rest here h1) (All-head BodyFits b bs fits) (All-head ListsFit b bs places) (omega arith) (omega arith) few,
      codes_stand file bs next h2 (All-tail BodyFits b bs fits) (All-tail ListsFit b bs places) (omega arith) few,
    )

codes_split : (file : List ℕ) (front bs : List Body) (os : List ℕ) → CodesSaid file (front ++ bs) os
    → CodesSaid file front os × CodesSaid file bs (drop (length front) os)
codes_split file [] bs os h = (tt, h)
codes_split file (a ∷ front) bs [] h = absurd h
codes_split file (a ∷ front) bs (o ∷ os) h = (let r = codes_split file front bs os h.1 in ((h.0, r.0), r.1))

-- a method takes the first offset if it has a code
takes_first : (file : List ℕ) (code : Option Body) (bodies : List Body) (os : List ℕ) → CodesSaid file (with_body code bodies) os
    → CodeSaid file (next_offset code os) code × CodesSaid file bodies (offsets_left code os)
takes_first file None bodies os h = (refl, h)
takes_first file (Some b) bodies [] h = absurd h
takes_first file (Some b) bodies (o ∷ os) h = h

methods_stand : (file : List ℕ) (ms : List MethodRow) (os : List ℕ) → CodesSaid file (bodies_in ms) os → MethodsSaid file (method_rows os ms) ms
methods_stand file [] os h = tt
methods_stand file (m ∷ ms) os h =
    let r = takes_first file m.code (bodies_in ms) os h in
    (record { id = refl; flags = refl; code = r.0 }, methods_stand file ms (offsets_left m.code os) r.1)

-- the rows of a class: its codes stand behind those of the classes before it, and its methods take the offsets there
pub record RowsListed (offsets : List ℕ) (cs : List Class) (i : ℕ) (c : Class) : Type 0 where
  pub front : List Body
  pub back : List Body
  pub bodies : all_bodies cs ≡ front ++ (bodies_of c ++ back)
  pub is : slice_get (all_rows offsets cs) i ≡ Some (class_rows_with (drop (length front) offsets) c)

pub rows_listed : (cs : List Class) (os : List ℕ) (i : ℕ) (c : Class) → slice_get cs i ≡ Some c → RowsListed os cs i c
rows_listed [] os i c e = absurd cc
rows_listed (d ∷ cs) os zero c e =
    let same : d ≡ c = cc in
    record { front = []; back = all_bodies cs; bodies = ap (λ z. bodies_of z ++ all_bodies cs) same; is = ap (λ z. Some (class_rows_with os z)) same }
rows_listed (d ∷ cs) os (suc i) c e =
    let front : List Body = bodies_of d in
    let r = rows_listed cs (drop (length front) os) i c e in
    let rest : drop (length r.front) (drop (length front) os) ≡ drop (length (front ++ r.front)) os =
    drop-drop (length r.front) (length front) os ∙ ap (λ n. drop n os) (sym (length-append front r.front)) in
    record {
      front = front ++ r.front;
      back = r.back;
      bodies = ap (λ z. front ++ z) r.bodies ∙ sym (append_assoc front r.front (bodies_of c ++ r.back));
      is = r.is ∙ ap (λ z. Some (class_rows_with z c)) rest;
    }

-- what holds of each code
fitting : (ms : List MethodRow) → All MethodFits ms → All BodyFits (bodies_in ms)
fitting [] all = All-nil BodyFits
fitting (m ∷ ms) all = with_first m.code (bodies_in ms) (All-head MethodFits m ms all).code (fitting ms (All-tail MethodFits m ms all))
  where
    with_first : (code : Option Body) (bodies : List Body) → IfSome code BodyFits → All BodyFits bodies → All BodyFits (with_body code bodies)
    with_first None bodies fits all = all
    with_first (Some b) bodies fits all = All-cons BodyFits b bodies fits all

all_fit : (cs : List Class) → All ClassFits cs → All BodyFits (all_bodies cs)
all_fit [] all = All-nil BodyFits
all_fit (c ∷ cs) all =
    let fits = All-head ClassFits c cs all in
    All-append BodyFits (bodies_of c) (all_bodies cs)
    (All-append BodyFits (bodies_in c.directs) (bodies_in c.virtuals) (fitting c.directs fits.directs) (fitting c.virtuals fits.virtuals))
    (all_fit cs (All-tail ClassFits c cs all))

codes_said : (file : List ℕ) (t : Tables) → Laid file t → IsWritable t → PlacesFit t → file_end t ≤ most_bytes
    → CodesSaid file (all_bodies t.classes) (code_offsets t)
unfolding codes_part code_offsets
codes_said file t laid fits places few =
    let s = steps t in
    let begin : 0 < codes_begin t = omega (arith, s.codes, s.lists) in
    let short : length file ≤ most_bytes = (let e = laid.whole in omega arith) in
    codes_stand file (all_bodies t.classes) (codes_begin t) laid.codes (all_fit t.classes fits.classes) places begin short

-- the rows of a class, where the classes before it have these codes
abbrev pub rows_behind : Tables → Class → List Body → ClassRows
rows_behind t c front = class_rows_with (drop (length front) (code_offsets t)) c

pub methods_said : (file : List ℕ) (t : Tables) → Laid file t → IsWritable t → PlacesFit t → file_end t ≤ most_bytes
    → (i : ℕ) (c : Class) (r : RowsListed (code_offsets t) t.classes i c)
    → MethodsSaid file (rows_behind t c r.front).directs c.directs × MethodsSaid file (rows_behind t c r.front).virtuals c.virtuals
methods_said file t laid fits places few i c r =
    let os : List ℕ = drop (length r.front) (code_offsets t) in
    let all : CodesSaid file (r.front ++ (bodies_of c ++ r.back)) (code_offsets t) =
    subst (λ bodies. CodesSaid file bodies (code_offsets t)) r.bodies (codes_said file t laid fits places few) in
    let here = codes_split file (bodies_of c) r.back os (codes_split file r.front (bodies_of c ++ r.back) (code_offsets t) all).1 in
    let two = codes_split file (bodies_in c.directs) (bodies_in c.virtuals) os here.0 in
    (methods_stand file c.directs os two.0, methods_stand file c.virtuals (drop (length (bodies_in c.directs)) os) two.1)
