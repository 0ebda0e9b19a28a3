-- The map of an image names what there is, and the rule on it is not broken.
use Rattle.std.proofs.Common.{◌≡◌, ℕ, ◌+◌, ◌*◌, ◌%◌, ◌^◌, ◌<◌, ◌≤◌, List, [], ◌∷◌, length, Some, None, Bool, true, refl, sym, ap, ◌∙◌, arith}
use Rattle.std.specs.List.{AllByRecursion, flat_map}
use Rattle.std.specs.Prelude.{◌==◌, ◌&&◌, nat_le, slice_get}
use Rattle.std.proofs.lemmas.Bool.Decides.{nat_tests}
use Rattle.byteorder.specs.Endian.{little_bytes}
use Rattle.pi_bytes.specs.Numbers.{word_at, most_bytes}
use Rattle.pi_format.specs.Tables.{count_at, table_at, string_ids, type_ids, proto_ids, field_ids, method_ids, class_defs}
use Rattle.pi_format.specs.Rules.Header.{unless}
use Rattle.pi_format.specs.Rules.Map.{item_count, map_lies, width_of_item, has_item, table_mapped, items_hold, names_ids, names_members, names_tables, map_holds, broken_map}
use Rattle.pi_parts.specs.Parts.{padding}
use Rattle.pi_parts.proofs.Stands.{Stands, word_stands}
use Rattle.pi_dextables.specs.declared.tables.Tables.{Tables}
use Rattle.pi_dextables.specs.Rows.{all_bodies}
use Rattle.pi_dextables.specs.Image.{kind_counts, positive, type_lists, value_arrays, listing, types_begin, protos_begin, fields_begin, methods_begin, classes_begin, map_begin, lists_begin, codes_begin, strings_begin, members_begin, arrays_begin, file_end, map_item, all_kinds, standing, item_bytes, map_part, where_some}
use Rattle.pi_dextables.proofs.Steps.{steps}
use Rattle.pi_dextables.proofs.Laid.{Laid, Headed}
use Rattle.pi_dextables.proofs.Whole.{length_items, split}
use Rattle.pi_dextables.proofs.Head.{HeadSaid, ordered}
use Rattle.pi_dextables.proofs.Counts.{few, first_code}
use Rattle.pi_dextables.proofs.MapItems.{Between, Rising, follows, StandsIn, stands_in, each_standing, misses, misses_standing, apart, apart_standing}
use Rattle.pi_dextables.proofs.Map.{ItemFits, Mapped, item_said, hold, has, lacks, table}

-- each kind stands once among the candidates
kinds_apart : (t : Tables) → apart (all_kinds t) ≡ true
unfolding all_kinds
kinds_apart t = refl

-- the candidates rise
abbrev ends_of : Tables → List ℕ
ends_of t =
    112 ∷ types_begin t ∷ protos_begin t ∷ fields_begin t ∷ methods_begin t ∷ classes_begin t ∷ map_begin t ∷ lists_begin t
    ∷ codes_begin t ∷ strings_begin t ∷ members_begin t ∷ arrays_begin t ∷ file_end t ∷ []

-- what begins where the place for it does
begins_there : (at kind count next : ℕ) → at + count ≤ next → at + width_of_item kind * count ≤ next → Between at (map_item kind count at) next
begins_there at kind count next few end = record { on = omega arith; from = λ lt. omega arith; rises = λ lt. omega (arith, lt); ends = λ lt. end }

-- codes begin behind their padding
codes_between : (t : Tables) → Between (codes_begin t) (map_item 0x2001 (length (all_bodies t.classes)) (codes_begin t + padding (codes_begin t))) (strings_begin t)
codes_between t =
    let s = steps t in
    record {
      on = omega arith;
      from = λ lt. omega arith;
      rises = λ lt. (let first = first_code t lt in omega (arith, first));
      ends = λ lt. (let first = first_code t lt in omega (arith, first));
    }

kinds_rise : (t : Tables) → Rising 0 (all_kinds t) (ends_of t)
unfolding all_kinds
kinds_rise t =
    let s = steps t in
    let n = few t in
    let head = begins_there 0 0 1 112 (omega arith) (omega arith) in
    let strings = begins_there 112 1 (length t.strings) (types_begin t) (omega arith) (omega arith) in
    let types = begins_there (types_begin t) 2 (length t.types) (protos_begin t) (omega arith) (omega arith) in
    let protos = begins_there (protos_begin t) 3 (length t.protos) (fields_begin t) (omega arith) (omega arith) in
    let fields = begins_there (fields_begin t) 4 (length t.fields) (methods_begin t) (omega arith) (omega arith) in
    let methods = begins_there (methods_begin t) 5 (length t.methods) (classes_begin t) (omega arith) (omega arith) in
    let classes = begins_there (classes_begin t) 6 (length t.classes) (map_begin t) (omega arith) (omega arith) in
    let map = begins_there (map_begin t) 0x1000 1 (lists_begin t) (omega arith) (omega arith) in
    let lists = begins_there (lists_begin t) 0x1001 (length (type_lists t)) (codes_begin t) (omega arith) (omega arith) in
    let codes = codes_between t in
    let texts = begins_there (strings_begin t) 0x2002 (length t.strings) (members_begin t) (omega arith) (omega arith) in
    let members = begins_there (members_begin t) 0x2000 (listing t.classes) (arrays_begin t) (omega arith) (omega arith) in
    let arrays = begins_there (arrays_begin t) 0x2005 (length (value_arrays t)) (file_end t) (omega arith) (omega arith) in
    (head, (strings, (types, (protos, (fields, (methods, (classes, (map, (lists, (codes, (texts, (members, (arrays, tt)))))))))))))

-- the items of an image fit the places that they have
fits : (kind count offset : ℕ) → kind < 2 ^ 16 → count < 2 ^ 32 → offset < 2 ^ 32 → ItemFits (map_item kind count offset)
fits kind count offset a b c = record { kind = a; count = b; offset = c }

kinds_fit : (t : Tables) → file_end t ≤ most_bytes → AllByRecursion ItemFits (all_kinds t)
unfolding all_kinds
kinds_fit t short =
    let o = ordered t in
    let s = steps t in
    let n = few t in
    let head = fits 0 1 0 (omega arith) (omega arith) (omega arith) in
    let strings = fits 1 (length t.strings) 112 (omega arith) (omega arith) (omega arith) in
    let types = fits 2 (length t.types) (types_begin t) (omega arith) (omega arith) (omega arith) in
    let protos = fits 3 (length t.protos) (protos_begin t) (omega arith) (omega arith) (omega arith) in
    let fields = fits 4 (length t.fields) (fields_begin t) (omega arith) (omega arith) (omega arith) in
    let methods = fits 5 (length t.methods) (methods_begin t) (omega arith) (omega arith) (omega arith) in
    let classes = fits 6 (length t.classes) (classes_begin t) (omega arith) (omega arith) (omega arith) in
    let map = fits 0x1000 1 (map_begin t) (omega arith) (omega arith) (omega arith) in
    let lists = fits 0x1001 (length (type_lists t)) (lists_begin t) (omega arith) (omega arith) (omega arith) in
    let codes = fits 0x2001 (length (all_bodies t.classes)) (codes_begin t + padding (codes_begin t)) (omega arith) (omega arith) (omega arith) in
    let texts = fits 0x2002 (length t.strings) (strings_begin t) (omega arith) (omega arith) (omega arith) in
    let members = fits 0x2000 (listing t.classes) (members_begin t) (omega arith) (omega arith) (omega arith) in
    let arrays = fits 0x2005 (length (value_arrays t)) (arrays_begin t) (omega arith) (omega arith) (omega arith) in
    (head, (strings, (types, (protos, (fields, (methods, (classes, (map, (lists, (codes, (texts, (members, (arrays, tt)))))))))))))

-- so its map says them
map_stands : (file : List ℕ) (t : Tables) → Stands file (map_begin t) (map_part t)
    → Stands file (map_begin t) (little_bytes 4 (positive (kind_counts t))) × Stands file (map_begin t + 4) (flat_map item_bytes (standing (all_kinds t)))
unfolding map_part
map_stands file t h = split file (little_bytes 4 (positive (kind_counts t))) (flat_map item_bytes (standing (all_kinds t))) (map_begin t) (map_begin t + 4) refl h

few_items : (t : Tables) → file_end t ≤ most_bytes → positive (kind_counts t) < 2 ^ 32
few_items t few = (let s = steps t in omega arith)

count_said : (file : List ℕ) (t : Tables) → Laid file t → HeadSaid file t → file_end t ≤ most_bytes → item_count file ≡ positive (kind_counts t)
count_said file t laid head few =
    ap (λ (m : ℕ). word_at file m) head.map
    ∙ word_stands file (map_begin t) (positive (kind_counts t)) (map_stands file t laid.map).0 (few_items t few)

mapped : (file : List ℕ) (t : Tables) → Laid file t → HeadSaid file t → file_end t ≤ most_bytes → Mapped file (standing (all_kinds t))
mapped file t laid head few =
    record {
      count = count_said file t laid head few ∙ sym (length_items t);
      item = λ k i is. item_said file (standing (all_kinds t)) (map_begin t) k i head.map (map_stands file t laid.map).1 is
          (each_standing ItemFits (all_kinds t) k i (kinds_fit t few) is);
    }

-- the map lies in the file
lies : (at count size : ℕ) → at % 4 ≡ 0 → at + 4 + 12 * count ≤ size → ((at % 4 == 0) && (nat_le (at + 4) size && nat_le (at + 4 + 12 * count) size)) ≡ true
lies at count size even le = grind (arith, nat_tests)

map_lies_here : (file : List ℕ) (t : Tables) → Laid file t → HeadSaid file t → file_end t ≤ most_bytes → map_lies file ≡ true
map_lies_here file t laid head few =
    let s = steps t in
    let o = ordered t in
    let even : map_begin t % 4 ≡ 0 = omega arith in
    let holds = lies (map_begin t) (positive (kind_counts t)) (file_end t) even (omega arith) in
    rw (count_said file t laid head few, head.map, laid.whole) holds

-- what the map names
named : (file : List ℕ) (t : Tables) (p kind n at place : ℕ) → Mapped file (standing (all_kinds t))
    → slice_get (all_kinds t) p ≡ Some (map_item kind n at) → count_at file place ≡ n → table_at file place ≡ where_some n at
    → table_mapped file kind place ≡ true
named file t p kind n at place mapped is count offset = table file (all_kinds t) p kind n at place mapped (kinds_apart t) is count offset

names_head : (file : List ℕ) (t : Tables) → Mapped file (standing (all_kinds t)) → has_item file 0 1 0 ≡ true
unfolding all_kinds
names_head file t mapped =
    let there : StandsIn (all_kinds t) (map_item 0 1 0) = stands_in (all_kinds t) 0 (map_item 0 1 0) refl (omega arith) in
    has file (standing (all_kinds t)) there.place (map_item 0 1 0) mapped there.is

ids_named : (file : List ℕ) (t : Tables) → Mapped file (standing (all_kinds t)) → Headed file t → names_ids file ≡ true
unfolding names_ids all_kinds
ids_named file t mapped headed =
    let head = names_head file t mapped in
    let strings = named file t 1 1 (length t.strings) 112 string_ids mapped refl headed.strings headed.strings_at in
    let types = named file t 2 2 (length t.types) (types_begin t) type_ids mapped refl headed.types headed.types_at in
    let protos = named file t 3 3 (length t.protos) (protos_begin t) proto_ids mapped refl headed.protos headed.protos_at in
    rw (head, strings, types, protos) refl

members_named : (file : List ℕ) (t : Tables) → Mapped file (standing (all_kinds t)) → Headed file t → names_members file ≡ true
unfolding names_members all_kinds
members_named file t mapped headed =
    let fields = named file t 4 4 (length t.fields) (fields_begin t) field_ids mapped refl headed.fields headed.fields_at in
    let methods = named file t 5 5 (length t.methods) (methods_begin t) method_ids mapped refl headed.methods headed.methods_at in
    let classes = named file t 6 6 (length t.classes) (classes_begin t) class_defs mapped refl headed.classes headed.classes_at in
    rw (fields, methods, classes) refl

misses_seven : (t : Tables) → misses 7 (all_kinds t) ≡ true
unfolding all_kinds
misses_seven t = refl

misses_eight : (t : Tables) → misses 8 (all_kinds t) ≡ true
unfolding all_kinds
misses_eight t = refl

tables_named : (file : List ℕ) (t : Tables) → Mapped file (standing (all_kinds t)) → Headed file t → names_tables file ≡ true
tables_named file t mapped headed =
    let ids = ids_named file t mapped headed in
    let members = members_named file t mapped headed in
    let seven = lacks file (standing (all_kinds t)) 7 mapped (misses_standing 7 (all_kinds t) (misses_seven t)) in
    let eight = lacks file (standing (all_kinds t)) 8 mapped (misses_standing 8 (all_kinds t) (misses_eight t)) in
    rw (ids, members, seven, eight) refl

pub map_kept : (file : List ℕ) (t : Tables) → Laid file t → Headed file t → HeadSaid file t → file_end t ≤ most_bytes → broken_map file ≡ None
unfolding map_holds
map_kept file t laid headed head few =
    let said : Mapped file (standing (all_kinds t)) = mapped file t laid head few in
    let lies = map_lies_here file t laid head few in
    let items : items_hold file ≡ true =
    hold file (standing (all_kinds t)) said (λ k a b ha hb. follows 0 (all_kinds t) (ends_of t) k a b (kinds_rise t) ha hb)
    (apart_standing (all_kinds t) (kinds_apart t)) in
    let names = tables_named file t said headed in
    let holds : map_holds file ≡ true = rw (lies, items, names) refl in
    ap (λ (b : Bool). unless b 52) holds
