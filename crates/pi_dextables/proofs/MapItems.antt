-- The items that stand in a map, of the candidates for it: they rise, and each kind stands once.
use Rattle.std.proofs.Common.{◌≡◌, ℕ, zero, suc, ◌+◌, ◌*◌, ◌<◌, ◌≤◌, List, [], ◌∷◌, Some, Bool, true, false, refl, sym, ap, ◌∙◌, subst, arith}
use Rattle.std.specs.List.{AllByRecursion}
use Rattle.std.specs.Prelude.{◌==◌, ◌&&◌, not, slice_get, if◌then◌else◌}
use Rattle.std.proofs.lemmas.Bool.Decides.{nat_tests}
use Rattle.pi_format.specs.Rules.Map.{width_of_item}
use Rattle.pi_format.proofs.Held.{both}
use Rattle.pi_dextables.specs.Image.{MapItem, standing}

-- a candidate of which there is nothing does not stand, another does
none_stands : (i : MapItem) (items : List MapItem) → i.count ≡ 0 → standing (i ∷ items) ≡ standing items
none_stands i items e = ap (λ (n : ℕ). if n == 0 then standing items else i ∷ standing items) e

pick : (n : ℕ) (a b : List MapItem) → 0 < n → (if n == 0 then a else b) ≡ b
pick zero a b lt = absurd (omega arith)
pick (suc n) a b lt = grind (arith, nat_tests)

one_stands : (i : MapItem) (items : List MapItem) → 0 < i.count → standing (i ∷ items) ≡ i ∷ standing items
one_stands i items lt = pick i.count (standing items) (i ∷ standing items) lt

-- there is nothing, or something
data Count (n : ℕ) : Type 0 where
  none : n ≡ 0 → Count n
  some : 0 < n → Count n

count : (n : ℕ) → Count n
count zero = none refl
count (suc n) = some (omega arith)

-- the items that stand, by an equation of them
shown : (i : MapItem) (items rest : List MapItem) (k : ℕ) (x : MapItem) → standing (i ∷ items) ≡ rest
    → slice_get (standing (i ∷ items)) k ≡ Some x → slice_get rest k ≡ Some x
shown i items rest k x e h = subst (λ z. slice_get z k ≡ Some x) e h

hidden : (i : MapItem) (items rest : List MapItem) (k : ℕ) (x : MapItem) → standing (i ∷ items) ≡ rest
    → slice_get rest k ≡ Some x → slice_get (standing (i ∷ items)) k ≡ Some x
hidden i items rest k x e h = subst (λ z. slice_get z k ≡ Some x) (sym e) h

-- the things of a candidate lie between two offsets
pub record Between (at : ℕ) (i : MapItem) (next : ℕ) : Type 0 where
  pub on : at ≤ next
  pub from : 0 < i.count → at ≤ i.offset
  pub rises : 0 < i.count → i.offset < next
  pub ends : 0 < i.count → i.offset + width_of_item i.kind * i.count ≤ next

-- those of each lie behind those of the candidates before it
abbrev pub Rising : ℕ → List MapItem → List ℕ → Type 0
Rising at [] nexts = Unit {0}
Rising at (i ∷ items) [] = ⊥
Rising at (i ∷ items) (next ∷ nexts) = Between at i next × Rising next items nexts

some_same : {i b : MapItem} → Some i ≡ Some b → i ≡ b
some_same e = cc

first_behind : (at : ℕ) (items : List MapItem) (nexts : List ℕ) (b : MapItem) → Rising at items nexts
    → slice_get (standing items) 0 ≡ Some b → at ≤ b.offset
first_behind at [] nexts b up h = absurd cc
first_behind at (i ∷ items) [] b up h = absurd up
first_behind at (i ∷ items) (next ∷ nexts) b up h =
    let here : Between at i next = up.0 in
    let on : at ≤ next = here.on in
    elim (count i.count) [
      | none e ↦ let later = first_behind next items nexts b up.1 (shown i items (standing items) 0 b (none_stands i items e) h) in omega arith
      | some lt ↦ let same : i ≡ b = some_same (shown i items (i ∷ standing items) 0 b (one_stands i items lt) h) in
          subst (λ (z : MapItem). at ≤ z.offset) same (here.from lt)
    ]

-- an item that stands behind another: no table reaches into it
pub record Follows (a b : MapItem) : Type 0 where
  pub rises : a.offset < b.offset
  pub ends : a.offset + width_of_item a.kind * a.count ≤ b.offset

follows_first : (a b : MapItem) (at next : ℕ) → Between at a next → 0 < a.count → next ≤ b.offset → Follows a b
follows_first a b at next between lt le =
    let rises = between.rises lt in
    let ends = between.ends lt in
    record { rises = omega (arith, rises, le); ends = omega (arith, ends, le) }

pub follows : (at : ℕ) (items : List MapItem) (nexts : List ℕ) (k : ℕ) (a b : MapItem) → Rising at items nexts
    → slice_get (standing items) k ≡ Some a → slice_get (standing items) (suc k) ≡ Some b → Follows a b
follows at [] nexts k a b up ha hb = absurd cc
follows at (i ∷ items) [] k a b up ha hb = absurd up
follows at (i ∷ items) (next ∷ nexts) zero a b up ha hb = elim (count i.count) [
  | none e ↦ follows next items nexts zero a b up.1
      (shown i items (standing items) zero a (none_stands i items e) ha) (shown i items (standing items) 1 b (none_stands i items e) hb)
  | some lt ↦ (let same : i ≡ a = some_same (shown i items (i ∷ standing items) zero a (one_stands i items lt) ha) in
      let later : slice_get (standing items) 0 ≡ Some b = shown i items (i ∷ standing items) 1 b (one_stands i items lt) hb in
      subst (λ (z : MapItem). Follows z b) same (follows_first i b at next up.0 lt (first_behind next items nexts b up.1 later)))
]
follows at (i ∷ items) (next ∷ nexts) (suc k) a b up ha hb = elim (count i.count) [
  | none e ↦ follows next items nexts (suc k) a b up.1
      (shown i items (standing items) (suc k) a (none_stands i items e) ha) (shown i items (standing items) (suc (suc k)) b (none_stands i items e) hb)
  | some lt ↦ follows next items nexts k a b up.1
      (shown i items (i ∷ standing items) (suc k) a (one_stands i items lt) ha) (shown i items (i ∷ standing items) (suc (suc k)) b (one_stands i items lt) hb)
]

-- a candidate of which there is something stands
pub record StandsIn (items : List MapItem) (i : MapItem) : Type 0 where
  pub place : ℕ
  pub is : slice_get (standing items) place ≡ Some i

pub stands_in : (items : List MapItem) (p : ℕ) (i : MapItem) → slice_get items p ≡ Some i → 0 < i.count → StandsIn items i
stands_in [] p i h lt = absurd cc
stands_in (j ∷ items) zero i h lt =
    let same : j ≡ i = some_same h in
    let more : 0 < j.count = subst (λ (z : MapItem). 0 < z.count) (sym same) lt in
    record { place = zero; is = hidden j items (j ∷ standing items) zero i (one_stands j items more) h }
stands_in (j ∷ items) (suc p) i h lt =
    let later : StandsIn items i = stands_in items p i h lt in
    elim (count j.count) [
      | none e ↦ record { place = later.place; is = hidden j items (standing items) later.place i (none_stands j items e) later.is }
      | some more ↦ record { place = suc later.place; is = hidden j items (j ∷ standing items) (suc later.place) i (one_stands j items more) later.is }
    ]

-- a fact of each candidate holds of each that stands
pub each_standing : (P : MapItem → Type 0) (items : List MapItem) (k : ℕ) (i : MapItem) → AllByRecursion P items → slice_get (standing items) k ≡ Some i → P i
each_standing P [] k i all h = absurd cc
each_standing P (j ∷ items) zero i all h = elim (count j.count) [
  | none e ↦ each_standing P items zero i all.1 (shown j items (standing items) zero i (none_stands j items e) h)
  | some more ↦ subst P (some_same (shown j items (j ∷ standing items) zero i (one_stands j items more) h)) all.0
]
each_standing P (j ∷ items) (suc k) i all h = elim (count j.count) [
  | none e ↦ each_standing P items (suc k) i all.1 (shown j items (standing items) (suc k) i (none_stands j items e) h)
  | some more ↦ each_standing P items k i all.1 (shown j items (j ∷ standing items) (suc k) i (one_stands j items more) h)
]

-- no item has that kind
abbrev pub misses : ℕ → List MapItem → Bool
misses kind [] = true
misses kind (i ∷ items) = not (i.kind == kind) && misses kind items

-- each kind stands once
abbrev pub apart : List MapItem → Bool
apart [] = true
apart (i ∷ items) = misses i.kind items && apart items

not_so : (b : Bool) → not b ≡ true → b ≡ false
not_so true e = cc
not_so false e = refl

pub misses_nth : (kind : ℕ) (items : List MapItem) (k : ℕ) (i : MapItem) → misses kind items ≡ true → slice_get items k ≡ Some i → (i.kind == kind) ≡ false
misses_nth kind [] k i m h = absurd cc
misses_nth kind (j ∷ items) zero i m h =
    let here : (j.kind == kind) ≡ false = not_so (j.kind == kind) ((both (not (j.kind == kind)) (misses kind items) m).0) in
    subst (λ (z : MapItem). (z.kind == kind) ≡ false) (some_same h) here
misses_nth kind (j ∷ items) (suc k) i m h = misses_nth kind items k i ((both (not (j.kind == kind)) (misses kind items) m).1) h

pub misses_standing : (kind : ℕ) (items : List MapItem) → misses kind items ≡ true → misses kind (standing items) ≡ true
misses_standing kind [] m = refl
misses_standing kind (j ∷ items) m =
    let parts = both (not (j.kind == kind)) (misses kind items) m in
    let rest : misses kind (standing items) ≡ true = misses_standing kind items parts.1 in
    elim (count j.count) [
      | none e ↦ subst (λ z. misses kind z ≡ true) (sym (none_stands j items e)) rest
      | some more ↦ subst (λ z. misses kind z ≡ true) (sym (one_stands j items more)) (rw (parts.0, rest) refl)
    ]

pub apart_standing : (items : List MapItem) → apart items ≡ true → apart (standing items) ≡ true
apart_standing [] m = refl
apart_standing (j ∷ items) m =
    let parts = both (misses j.kind items) (apart items) m in
    let rest : apart (standing items) ≡ true = apart_standing items parts.1 in
    let misses : misses j.kind (standing items) ≡ true = misses_standing j.kind items parts.0 in
    elim (count j.count) [
      | none e ↦ subst (λ z. apart z ≡ true) (sym (none_stands j items e)) rest
      | some more ↦ subst (λ z. apart z ≡ true) (sym (one_stands j items more)) (rw (misses, rest) refl)
    ]

differ : (a b : ℕ) → (a == b) ≡ false → (b == a) ≡ false
differ a b e = grind (arith, nat_tests)

pub apart_nth : (items : List MapItem) (j k : ℕ) (a b : MapItem) → apart items ≡ true → j < k
    → slice_get items j ≡ Some a → slice_get items k ≡ Some b → (a.kind == b.kind) ≡ false
apart_nth [] j k a b m lt ha hb = absurd cc
apart_nth (i ∷ items) j zero a b m lt ha hb = absurd (omega arith)
apart_nth (i ∷ items) zero (suc k) a b m lt ha hb =
    let parts = both (misses i.kind items) (apart items) m in
    let other : (b.kind == i.kind) ≡ false = misses_nth i.kind items k b parts.0 hb in
    subst (λ (z : MapItem). (z.kind == b.kind) ≡ false) (some_same ha) (differ b.kind i.kind other)
apart_nth (i ∷ items) (suc j) (suc k) a b m lt ha hb =
    apart_nth items j k a b ((both (misses i.kind items) (apart items) m).1) (omega (arith, lt)) ha hb

-- of a candidate of which there is nothing no item has the kind
pub absent : (items : List MapItem) (p : ℕ) (i : MapItem) → apart items ≡ true → slice_get items p ≡ Some i → i.count ≡ 0
    → misses i.kind (standing items) ≡ true
absent [] p i m h e = absurd cc
absent (j ∷ items) zero i m h e =
    let same : j ≡ i = some_same h in
    let parts = both (misses j.kind items) (apart items) m in
    let none : j.count ≡ 0 = ap (λ (z : MapItem). z.count) same ∙ e in
    let rest : misses j.kind (standing items) ≡ true = misses_standing j.kind items parts.0 in
    let whole : misses j.kind (standing (j ∷ items)) ≡ true = subst (λ z. misses j.kind z ≡ true) (sym (none_stands j items none)) rest in
    subst (λ (z : MapItem). misses z.kind (standing (j ∷ items)) ≡ true) same whole
absent (j ∷ items) (suc p) i m h e =
    let parts = both (misses j.kind items) (apart items) m in
    let rest : misses i.kind (standing items) ≡ true = absent items p i parts.1 h e in
    let other : (j.kind == i.kind) ≡ false = differ i.kind j.kind (misses_nth j.kind items p i parts.0 h) in
    elim (count j.count) [
      | none z ↦ subst (λ z. misses i.kind z ≡ true) (sym (none_stands j items z)) rest
      | some more ↦ subst (λ z. misses i.kind z ≡ true) (sym (one_stands j items more)) (rw (other, rest) refl)
    ]
