-- The map and the header, part by part.
use Rattle.std.proofs.Common.{◌≡◌, ℕ, ◌+◌, ◌-◌, ◌≤◌, List, [], ◌∷◌, ◌++◌, length, map, refl, sym, ap, ◌∙◌, arith, append_assoc}
use Rattle.std.specs.Prelude.{◌==◌, Bool, true, false, if◌then◌else◌}
use Rattle.std.specs.List.{flat_map}
use Rattle.std.proofs.lemmas.Grind.{flat_map-append}
use Rattle.byteorder.specs.Endian.{little_bytes}
use Rattle.pi_bytes.specs.Numbers.{most_bytes}
use Rattle.pi_parts.specs.Parts.{words, padding}
use Rattle.pi_parts.proofs.Stands.{length_aligned_offsets}
use Rattle.pi_dextables.specs.Codes.{code_item}
use Rattle.pi_dextables.specs.Rows.{all_bodies}
use Rattle.pi_dextables.specs.Image.{MapItem, map_item, standing, item_bytes, all_kinds, kind_counts, positive, map_part, listing, type_lists, value_arrays, types_begin, protos_begin, fields_begin, methods_begin, classes_begin, map_begin, lists_begin, codes_begin, strings_begin, members_begin, arrays_begin, file_end, code_offsets, header_words}
use Rattle.pi_dextables.specs.declared.tables.Tables.{Tables}
use Rattle.pi_dextables.proofs.Head.{ordered}
use Rattle.pi_dexlay.specs.Layout.{table_kinds, data_kinds, table_words}
use Rattle.pi_dexlay.specs.declared.made.Places.{Places}
use Rattle.pi_dexlay.specs.Sections.{ArePlaces}

pub data_same : (t : Tables) (a b c d e f g h i j : ℕ) → a ≡ length (type_lists t) → b ≡ lists_begin t → c ≡ length (all_bodies t.classes)
    → d ≡ codes_begin t + padding (codes_begin t) → e ≡ length t.strings → f ≡ strings_begin t → g ≡ listing t.classes → h ≡ members_begin t
    → i ≡ length (value_arrays t) → j ≡ arrays_begin t
    → map_item 0x1001 a b ∷ map_item 0x2001 c d ∷ map_item 0x2002 e f ∷ map_item 0x2000 g h ∷ map_item 0x2005 i j ∷ [] ≡ data_kinds t
unfolding data_kinds
data_same t a b c d e f g h i j ea eb ec ed ee ef eg eh ei ej = rw (ea, eb, ec, ed, ee, ef, eg, eh, ei, ej) refl

pub table_same : (t : Tables) (b c d e f g h i j k l m : ℕ) → b ≡ length t.strings → c ≡ length t.types → d ≡ types_begin t → e ≡ length t.protos → f ≡ protos_begin t
    → g ≡ length t.fields → h ≡ fields_begin t → i ≡ length t.methods → j ≡ methods_begin t → k ≡ length t.classes → l ≡ classes_begin t → m ≡ map_begin t
    → map_item 0 1 0 ∷ map_item 1 b 112 ∷ map_item 2 c d ∷ map_item 3 e f ∷ map_item 4 g h ∷ map_item 5 i j ∷ map_item 6 k l ∷ map_item 0x1000 1 m ∷ [] ≡ table_kinds t
unfolding table_kinds
table_same t b c d e f g h i j k l m eb ec ed ee ef eg eh ei ej ek el em = rw (eb, ec, ed, ee, ef, eg, eh, ei, ej, ek, el, em) refl

pub codes_low : (t : Tables) (p : Places) → ArePlaces t p → p.codes ≤ most_bytes
codes_low t p a =
    let o = ordered t in
    let at : p.codes ≡ codes_begin t = a.codes in
    let few = a.few in
    omega (arith, at, few, o.strings, o.members, o.arrays, o.end)

pub map_low : (t : Tables) (p : Places) (map : ℕ) → ArePlaces t p → map ≡ map_begin t → map ≤ p.end
map_low t p map a e =
    let o = ordered t in
    let at : p.end ≡ file_end t = a.end in
    omega (arith, at, e, o.lists, o.codes, o.strings, o.members, o.arrays, o.end)

pub codes_counted : (t : Tables) → length (code_offsets t) ≡ length (all_bodies t.classes)
unfolding code_offsets
codes_counted t = length_aligned_offsets code_item (codes_begin t) (all_bodies t.classes)

standing_joined : (xs ys : List MapItem) → standing (xs ++ ys) ≡ standing xs ++ standing ys
standing_joined [] ys = refl
standing_joined (x ∷ xs) ys = one (x.count == 0) (standing_joined xs ys)
  where
    one : (b : Bool) → standing (xs ++ ys) ≡ standing xs ++ standing ys
        → (if b then standing (xs ++ ys) else x ∷ standing (xs ++ ys)) ≡ (if b then standing xs else x ∷ standing xs) ++ standing ys
    one true e = e
    one false e = ap (λ z. x ∷ z) e

kinds_joined : (t : Tables) → all_kinds t ≡ table_kinds t ++ data_kinds t
unfolding all_kinds table_kinds data_kinds
kinds_joined t = refl

pub map_put : (t : Tables) (kinds : ℕ) (old o1 o2 new : List ℕ) → kinds ≡ positive (kind_counts t) → o1 ≡ old ++ little_bytes 4 kinds
    → o2 ≡ o1 ++ flat_map item_bytes (standing (table_kinds t)) → new ≡ o2 ++ flat_map item_bytes (standing (data_kinds t)) → new ≡ old ++ map_part t
unfolding map_part
map_put t kinds old o1 o2 new k h1 h2 h3 =
    let a = flat_map item_bytes (standing (table_kinds t)) in
    let b = flat_map item_bytes (standing (data_kinds t)) in
    let n = little_bytes 4 (positive (kind_counts t)) in
    let items : flat_map item_bytes (standing (all_kinds t)) ≡ a ++ b =
    ap (λ z. flat_map item_bytes (standing z)) (kinds_joined t) ∙ ap (flat_map item_bytes) (standing_joined (table_kinds t) (data_kinds t))
    ∙ flat_map-append item_bytes (standing (table_kinds t)) (standing (data_kinds t)) in
    let first : o1 ≡ old ++ n = h1 ∙ ap (λ m. old ++ little_bytes 4 m) k in
    h3 ∙ ap (λ z. z ++ b) (h2 ∙ ap (λ z. z ++ a) first) ∙ append_assoc (old ++ n) a b ∙ append_assoc old n (a ++ b) ∙ ap (λ z. old ++ (n ++ z)) (sym items)

pub header_put : (t : Tables) (end map : ℕ) (old o1 o2 new : List ℕ) → end ≡ file_end t → map ≡ map_begin t
    → o1 ≡ old ++ words (end ∷ 112 ∷ 0x12345678 ∷ 0 ∷ 0 ∷ map ∷ []) → o2 ≡ o1 ++ words (table_words t) → new ≡ o2 ++ words ((end - map) ∷ map ∷ [])
    → new ≡ old ++ words (header_words t)
unfolding header_words
header_put t end map old o1 o2 new e m h1 h2 h3 =
    let a = words (end ∷ 112 ∷ 0x12345678 ∷ 0 ∷ 0 ∷ map ∷ []) in
    let b = words (table_words t) in
    let c = words ((end - map) ∷ map ∷ []) in
    let put : new ≡ old ++ (a ++ (b ++ c)) = h3 ∙ ap (λ z. z ++ c) (h2 ∙ ap (λ z. z ++ b) h1) ∙ append_assoc (old ++ a) b c ∙ append_assoc old a (b ++ c) in
    put ∙ ap (λ k. old ++ (words (k ∷ 112 ∷ 0x12345678 ∷ 0 ∷ 0 ∷ map ∷ []) ++ (b ++ words ((k - map) ∷ map ∷ [])))) e
    ∙ ap (λ k. old ++ (words (file_end t ∷ 112 ∷ 0x12345678 ∷ 0 ∷ 0 ∷ k ∷ []) ++ (b ++ words ((file_end t - k) ∷ k ∷ [])))) m
