-- Lists of types and values of which equal ones stand once: where each is found.
use Rattle.std.proofs.Common.{◌≡◌, ℕ, zero, suc, ◌+◌, ◌*◌, ◌%◌, ◌<◌, ◌≤◌, ◌^◌, true, false, List, [], ◌∷◌, length, get_or, map, Some, inl, inr, refl, sym, ap, subst, ◌∙◌, length-append, arith}
use Rattle.std.specs.Prelude.{All, Contains, slice_get, option_map, ◌==◌}
use Rattle.std.specs.List.{list_any}
use Rattle.std.specs.Cmp.Lexicographic.{same_text as text_told, other_text}
use Rattle.std.proofs.lemmas.List.Elements.{Contains-append_left, Contains-append_right, Contains-push}
use Rattle.std.proofs.lemmas.Map.Views.{Contains-from_any}
use Rattle.std.proofs.lemmas.Option.{slice_get-map, slice_get_within, slice_get_read, get_or_from_slice_get}
use Rattle.std.proofs.lemmas.Bool.{cases_Bool}
use Rattle.std.proofs.lemmas.Bool.Decides.{nat_tests}
use Rattle.byteorder.specs.Endian.{little_bytes}
use Rattle.pi_model.specs.Texts.{same_text}
use Rattle.pi_bytes.specs.Numbers.{word_at, halves_at, most_bytes}
use Rattle.pi_format.specs.Rules.Entries.{list_fits, list_at}
use Rattle.pi_parts.specs.Parts.{halves, offsets, aligned_offsets}
use Rattle.pi_parts.proofs.Stands.{Stands, stands_left, stands_right, stands_within, word_stands, halves_read, length_halves, length_offsets, length_aligned_offsets, found, found_aligned}
use Rattle.pi_dextables.specs.declared.tables.Class.{Class}
use Rattle.pi_dextables.specs.declared.tables.Proto.{Proto}
use Rattle.pi_dextables.specs.declared.tables.Tables.{Tables}
use Rattle.pi_dextables.specs.declared.tables.Value.{Value}
use Rattle.pi_dextables.specs.Items.{type_list, array_item, lists_in, arrays_in, with_new, with_all, offset_of, array_offset}
use Rattle.pi_dextables.specs.Image.{type_lists, value_arrays, lists_begin, lists_part, arrays_begin, arrays_part, file_end, list_at as layout_list_at}
use Rattle.pi_dextables.specs.Writable.{IsHalf}
use Rattle.pi_dextables.specs.Said.{ListSaid}
use Rattle.pi_dextables.proofs.Steps.{steps}
use Rattle.pi_dextables.proofs.Laid.{Laid}
use Rattle.pi_dextables.proofs.Counts.{array_long}

-- an element, by its index
element_at : (things : List (List ℕ)) (x : List ℕ) (i : ℕ) → slice_get things i ≡ Some x → Contains things x
element_at things x i is = (i, slice_get_within things i x is, get_or_from_slice_get things i x x is)

element_behind : (y : List ℕ) (things : List (List ℕ)) (x : List ℕ) → Contains things x → Contains (y ∷ things) x
element_behind y things x h = Contains-append_right (y ∷ []) things x h

-- what is told equal is among the things, and what was added stays
told : (things : List (List ℕ)) (x : List ℕ) → list_any (same_text x) things ≡ true → Contains things x
told things x e = Contains-from_any (λ a b same. text_told a b (sym same)) x things e

new_there : (things : List (List ℕ)) (x : List ℕ) → Contains (with_new things x) x
new_there things x = elim (cases_Bool (list_any (same_text x) things)) [
  | inl old ↦ rw old (told things x old)
  | inr new ↦ rw new (Contains-push things x)
]

kept_new : (things : List (List ℕ)) (y x : List ℕ) → Contains things x → Contains (with_new things y) x
kept_new things y x h = elim (cases_Bool (list_any (same_text y) things)) [
  | inl old ↦ rw old h
  | inr new ↦ rw new (Contains-append_left things (y ∷ []) x h)
]

kept_all : (things ys : List (List ℕ)) (x : List ℕ) → Contains things x → Contains (with_all things ys) x
kept_all things [] x h = h
kept_all things (y ∷ ys) x h = kept_all (with_new things y) ys x (kept_new things y x h)

all_there : (things ys : List (List ℕ)) (x : List ℕ) (i : ℕ) → slice_get ys i ≡ Some x → Contains (with_all things ys) x
all_there things [] x i is = absurd cc
all_there things (y ∷ ys) x zero is =
    let same : y ≡ x = cc in
    kept_all (with_new things y) ys x (subst (Contains (with_new things y)) same (new_there things y))
all_there things (y ∷ ys) x (suc i) is = all_there (with_new things y) ys x i is

all_added : (things ys : List (List ℕ)) (x : List ℕ) → Contains ys x → Contains (with_all things ys) x
all_added things ys x h = all_there things ys x h.0 (slice_get_read ys (length ys) h.0 x refl h.1 (sym h.2))

-- each list that is not empty is kept
list_kept : (lists : List (List ℕ)) (i x : ℕ) (xs : List ℕ) → slice_get lists i ≡ Some (x ∷ xs) → Contains (lists_in lists) (type_list (x ∷ xs))
list_kept [] i x xs is = absurd cc
list_kept ([] ∷ lists) zero x xs is = absurd cc
list_kept ([] ∷ lists) (suc i) x xs is = list_kept lists i x xs is
list_kept ((y ∷ ys) ∷ lists) zero x xs is =
    let same : y ∷ ys ≡ x ∷ xs = cc in
    element_at (lists_in ((y ∷ ys) ∷ lists)) (type_list (x ∷ xs)) 0 (ap (λ l. Some (type_list l)) same)
list_kept ((y ∷ ys) ∷ lists) (suc i) x xs is = element_behind (type_list (y ∷ ys)) (lists_in lists) (type_list (x ∷ xs)) (list_kept lists i x xs is)

array_kept : (arrays : List (List Value)) (i : ℕ) (v : Value) (vs : List Value) → slice_get arrays i ≡ Some (v ∷ vs) → Contains (arrays_in arrays) (array_item (v ∷ vs))
array_kept [] i v vs is = absurd cc
array_kept ([] ∷ arrays) zero v vs is = absurd cc
array_kept ([] ∷ arrays) (suc i) v vs is = array_kept arrays i v vs is
array_kept ((w ∷ ws) ∷ arrays) zero v vs is =
    let same : w ∷ ws ≡ v ∷ vs = cc in
    element_at (arrays_in ((w ∷ ws) ∷ arrays)) (array_item (v ∷ vs)) 0 (ap (λ l. Some (array_item l)) same)
array_kept ((w ∷ ws) ∷ arrays) (suc i) v vs is = element_behind (array_item (w ∷ ws)) (arrays_in arrays) (array_item (v ∷ vs)) (array_kept arrays i v vs is)

-- the offset of a thing is that of one equal to it
record Placed (things : List (List ℕ)) (places : List ℕ) (x : List ℕ) : Type 0 where
  at : ℕ
  thing : slice_get things at ≡ Some x
  is : slice_get places at ≡ Some (offset_of things places x)

other_later : (y : List ℕ) (things : List (List ℕ)) (x : List ℕ) (i : ℕ) → same_text x y ≡ false → i < suc (length things) → get_or (y ∷ things) i x ≡ x → Contains things x
other_later y things x zero other lt same = absurd (other_text x y (sym other) (sym same))
other_later y things x (suc i) other lt same = (i, omega (arith, lt), same)

placed : (things : List (List ℕ)) (places : List ℕ) (x : List ℕ) → length places ≡ length things → Contains things x → Placed things places x
placed [] places x e h = (let lt = h.1 in absurd (omega arith))
placed (y ∷ things) [] x e h = absurd (omega arith)
placed (y ∷ things) (o ∷ places) x e h = elim (cases_Bool (same_text x y)) [
  | inl told ↦ (let same : x ≡ y = text_told x y (sym told) in record { at = 0; thing = ap Some (sym same); is = rw told refl })
  | inr other ↦
      let p = placed things places x (omega arith) (other_later y things x h.0 other h.1 h.2) in
      record { at = suc p.at; thing = p.thing; is = rw other p.is }
]

-- a list of types that is not empty stands at its offset
record ListStands (file : List ℕ) (t : Tables) (types : List ℕ) : Type 0 where
  there : Stands file (layout_list_at t types) (type_list types)
  even : layout_list_at t types % 4 ≡ 0
  behind : 0 < layout_list_at t types
  within : layout_list_at t types + length (type_list types) ≤ file_end t

list_stands : (file : List ℕ) (t : Tables) (x : ℕ) (xs : List ℕ) → Laid file t → Contains (type_lists t) (type_list (x ∷ xs)) → ListStands file t (x ∷ xs)
unfolding lists_part layout_list_at
list_stands file t x xs laid a =
    let s = steps t in
    let item = type_list (x ∷ xs) in
    let things = type_lists t in
    let places = aligned_offsets (λ (y : List ℕ). y) (lists_begin t) things in
    let p : Placed things places item = placed things places item (length_aligned_offsets (λ (y : List ℕ). y) (lists_begin t) things) a in
    let f = found_aligned file (λ (y : List ℕ). y) things (lists_begin t) p.at item laid.lists p.thing in
    let some : Some f.offset ≡ Some (layout_list_at t (x ∷ xs)) = sym f.is ∙ p.is in
    let same : f.offset ≡ layout_list_at t (x ∷ xs) = cc in
    let begin : 0 < lists_begin t = omega (arith, s.lists) in
    record {
      there = subst (λ (o : ℕ). Stands file o item) same f.there;
      even = subst (λ (o : ℕ). o % 4 ≡ 0) same f.even;
      behind = (let b = f.behind in omega arith);
      within = (let w = f.within in omega (arith, s.codes, s.strings, s.members, s.arrays, s.end));
    }

-- what the format reads of a list that stands
length_list : (types : List ℕ) → length (type_list types) ≡ 4 + 2 * length types
unfolding type_list
length_list types = omega (arith, length-append (little_bytes 4 (length types)) (halves types), length_halves types)

fits_there : (file : List ℕ) (at n : ℕ) → at % 4 ≡ 0 → word_at file at ≡ n → at + (4 + 2 * n) ≤ length file → list_fits file at ≡ true
fits_there file at n even size le = rw size (grind (arith, nat_tests))

list_there : (file : List ℕ) (at n : ℕ) → 0 < at → word_at file at ≡ n → list_at file at ≡ halves_at file (at + 4) n
list_there file at n behind size = (let no : (at == 0) ≡ false = grind (arith, nat_tests) in rw (no, size) refl)

size_reads : (file : List ℕ) (at : ℕ) (types : List ℕ) → length types < 2 ^ 32 → Stands file at (type_list types) → word_at file at ≡ length types
unfolding type_list
size_reads file at types few h = word_stands file at (length types) (stands_left file (little_bytes 4 (length types)) (halves types) at h) few

types_read : (file : List ℕ) (at : ℕ) (types : List ℕ) → All IsHalf types → Stands file at (type_list types) → halves_at file (at + 4) (length types) ≡ types
unfolding type_list
types_read file at types all h = halves_read file types (at + 4) (stands_right file (little_bytes 4 (length types)) (halves types) at (at + 4) refl h) all

list_said : (file : List ℕ) (at : ℕ) (types : List ℕ) → Stands file at (type_list types) → at % 4 ≡ 0 → 0 < at → length file ≤ most_bytes → All IsHalf types → ListSaid file at types
list_said file at types h even behind few all =
    let long = length_list types in
    let w = stands_within file (type_list types) at (omega (arith, long)) h in
    let size = size_reads file at types (omega (arith, long, w)) h in
    record {
      fits = fits_there file at (length types) even size (omega (arith, long, w));
      is = list_there file at (length types) behind size ∙ types_read file at types all h;
    }

-- the lists of a file: an empty one is nowhere
none_at : (t : Tables) → layout_list_at t [] ≡ 0
unfolding layout_list_at
none_at t = refl

nothing_said : (file : List ℕ) → ListSaid file 0 []
nothing_said file = record { fits = refl; is = refl }

-- a list of types is empty, or its item is among those of the file
abbrev pub IsKept : Tables → List ℕ → Type 0
IsKept t [] = Unit {0}
IsKept t (x ∷ xs) = Contains (type_lists t) (type_list (x ∷ xs))

pub kept_said : (file : List ℕ) (t : Tables) (types : List ℕ) → Laid file t → file_end t ≤ most_bytes → IsKept t types → All IsHalf types → ListSaid file (layout_list_at t types) types
kept_said file t [] laid few kept all = subst (λ (o : ℕ). ListSaid file o []) (sym (none_at t)) (nothing_said file)
kept_said file t (x ∷ xs) laid few kept all =
    let s = list_stands file t x xs laid kept in
    let short : length file ≤ most_bytes = (let e = laid.whole in omega arith) in
    list_said file (layout_list_at t (x ∷ xs)) (x ∷ xs) s.there s.even s.behind short all

pub kept_low : (file : List ℕ) (t : Tables) (types : List ℕ) → Laid file t → file_end t ≤ most_bytes → IsKept t types → layout_list_at t types < 2 ^ 32
kept_low file t [] laid few kept = omega (arith, none_at t)
kept_low file t (x ∷ xs) laid few kept = (let w = (list_stands file t x xs laid kept).within in omega arith)

kept_of : (t : Tables) (lists : List (List ℕ)) (i : ℕ) (types : List ℕ) → ((x : List ℕ) → Contains (lists_in lists) x → Contains (type_lists t) x)
    → slice_get lists i ≡ Some types → IsKept t types
kept_of t lists i [] inside is = tt
kept_of t lists i (x ∷ xs) inside is = inside (type_list (x ∷ xs)) (list_kept lists i x xs is)

-- the parameters of prototypes and the interfaces of classes are kept
pub params_kept : (t : Tables) (i : ℕ) (p : Proto) → slice_get t.protos i ≡ Some p → IsKept t p.params
unfolding type_lists
params_kept t i p is =
    let lists : List (List ℕ) = map (λ q. q.params) t.protos in
    kept_of t lists i p.params (λ x h. kept_all (with_all [] (lists_in lists)) (lists_in (map (λ c. c.faces) t.classes)) x (all_added [] (lists_in lists) x h))
    (slice_get-map (λ (q : Proto). q.params) t.protos i ∙ ap (option_map (λ (q : Proto). q.params)) is)

pub faces_kept : (t : Tables) (i : ℕ) (c : Class) → slice_get t.classes i ≡ Some c → IsKept t c.faces
unfolding type_lists
faces_kept t i c is =
    let lists : List (List ℕ) = map (λ d. d.faces) t.classes in
    kept_of t lists i c.faces (all_added (with_all [] (lists_in (map (λ p. p.params) t.protos))) (lists_in lists))
    (slice_get-map (λ (d : Class). d.faces) t.classes i ∙ ap (option_map (λ (d : Class). d.faces)) is)

-- the offset of the values of a class
abbrev pub array_place : Tables → List Value → ℕ
array_place t values = array_offset (value_arrays t) (offsets (λ x. x) (arrays_begin t) (value_arrays t)) values

pub record ArrayFound (file : List ℕ) (t : Tables) (values : List Value) : Type 0 where
  pub low : array_place t values < 2 ^ 32
  pub none : length values ≡ 0 → array_place t values ≡ 0
  pub there : 0 < length values → Stands file (array_place t values) (array_item values)
  pub behind : 0 < length values → 0 < array_place t values

array_stands : (file : List ℕ) (t : Tables) (v : Value) (vs : List Value) → Laid file t → file_end t ≤ most_bytes
    → Contains (value_arrays t) (array_item (v ∷ vs)) → ArrayFound file t (v ∷ vs)
unfolding arrays_part
array_stands file t v vs laid few a =
    let s = steps t in
    let item = array_item (v ∷ vs) in
    let things = value_arrays t in
    let places = offsets (λ (y : List ℕ). y) (arrays_begin t) things in
    let p : Placed things places item = placed things places item (length_offsets (λ (y : List ℕ). y) (arrays_begin t) things) a in
    let f = found file (λ (y : List ℕ). y) things (arrays_begin t) p.at item laid.arrays p.thing in
    let some : Some f.offset ≡ Some (array_place t (v ∷ vs)) = sym f.is ∙ p.is in
    let same : f.offset ≡ array_place t (v ∷ vs) = cc in
    let long : 0 < length item = (let n = array_long (v ∷ vs) in omega arith) in
    let begin : 0 < arrays_begin t = omega (arith, s.lists, s.codes, s.strings, s.members, s.arrays) in
    let w = f.within long in
    let b = f.behind long in
    record {
      low = omega (arith, s.end);
      none = λ e. absurd (omega arith);
      there = λ lt. subst (λ (o : ℕ). Stands file o item) same (f.there long);
      behind = λ lt. omega arith;
    }

array_by : (file : List ℕ) (t : Tables) (i : ℕ) (values : List Value) → Laid file t → file_end t ≤ most_bytes
    → slice_get (map (λ c. c.values) t.classes) i ≡ Some values → ArrayFound file t values
unfolding value_arrays
array_by file t i [] laid few is = record { low = omega arith; none = λ e. refl; there = λ lt. absurd (omega arith); behind = λ lt. absurd (omega arith) }
array_by file t i (v ∷ vs) laid few is =
    let arrays : List (List Value) = map (λ c. c.values) t.classes in
    array_stands file t v vs laid few (all_added [] (arrays_in arrays) (array_item (v ∷ vs)) (array_kept arrays i v vs is))

pub array_found : (file : List ℕ) (t : Tables) → Laid file t → file_end t ≤ most_bytes → (i : ℕ) (c : Class) → slice_get t.classes i ≡ Some c
    → ArrayFound file t c.values
array_found file t laid few i c is =
    array_by file t i c.values laid few (slice_get-map (λ (d : Class). d.values) t.classes i ∙ ap (option_map (λ (d : Class). d.values)) is)
