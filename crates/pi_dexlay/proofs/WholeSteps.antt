-- The file, part by part.
use Rattle.std.proofs.Common.{◌≡◌, ℕ, zero, suc, ◌^◌, ◌<◌, ◌≤◌, List, [], ◌∷◌, ◌++◌, length, take, drop, refl, sym, ap, ◌∙◌, arith, append_assoc}
use Rattle.std.specs.Prelude.{All, Bool, true, false, ◌&&◌, nat_le, slice_index}
use Rattle.std.specs.List.{flat_map}
use Rattle.std.proofs.lemmas.Bool.Decides.{nat_tests}
use Rattle.std.proofs.lemmas.List.{drop_at, length-take-le}
use Rattle.std.proofs.lemmas.List.Elements.{All-nil, All-cons, All-head, All-tail}
use Rattle.byteorder.specs.Endian.{little_bytes}
use Rattle.sha1.specs.Sha1.{sha1}
use Rattle.pi_bytes.specs.Sums.{adler}
use Rattle.pi_format.specs.Tables.{magic}
use Rattle.pi_parts.specs.Parts.{words, zeros, aligned_offsets}
use Rattle.pi_parts.proofs.Stands.{length_offsets, length_aligned_offsets}
use Rattle.pi_dextables.specs.Codes.{list_places, list_place}
use Rattle.pi_dextables.specs.Items.{member_bytes}
use Rattle.pi_dextables.specs.Rows.{all_bodies, class_data}
use Rattle.pi_dextables.specs.Image.{list_at, type_lists, value_arrays, lists_begin, members_begin, arrays_begin, listed, strings_table, protos_table, classes_table, definitions, class_words, tables_part, map_part, header_words, lists_part, codes_part, strings_part, members_part, arrays_part, data_part, contents, signed, image}
use Rattle.pi_dextables.specs.Writable.{IsHalf, PlacesFit}
use Rattle.pi_dextables.specs.declared.tables.Body.{Body}
use Rattle.pi_dextables.specs.declared.tables.Class.{Class}
use Rattle.pi_dextables.specs.declared.tables.Range.{Range}
use Rattle.pi_dextables.specs.declared.tables.Tables.{Tables}
use Rattle.pi_dextables.proofs.Whole.{length_listed}
use Rattle.pi_dexlay.specs.declared.made.Made.{Made}
use Rattle.pi_dexlay.specs.declared.made.Pools.{Pools}
use Rattle.pi_dexlay.specs.Heads.{fit, all_fit}
use Rattle.pi_dexlay.specs.Layout.{ids_part, owned_part, signed_bytes}
use Rattle.pi_dexlay.specs.Sections.{ArePools, AreMade, proto_bytes, definition, all_definitions}

-- parts one behind the other
pub join3 : (old a b c o1 o2 new : List ℕ) → o1 ≡ old ++ a → o2 ≡ o1 ++ b → new ≡ o2 ++ c → new ≡ old ++ (a ++ (b ++ c))
join3 old a b c o1 o2 new h1 h2 h3 = rw (h3, h2, h1) (simp append_assoc refl)

pub join5 : (old a b c d e o1 o2 o3 o4 new : List ℕ) → o1 ≡ old ++ a → o2 ≡ o1 ++ b → o3 ≡ o2 ++ c → o4 ≡ o3 ++ d → new ≡ o4 ++ e
    → new ≡ old ++ (a ++ (b ++ (c ++ (d ++ e))))
join5 old a b c d e o1 o2 o3 o4 new h1 h2 h3 h4 h5 = rw (h5, h4, h3, h2, h1) (simp append_assoc refl)

-- as many offsets as things
pub lists_count : (t : Tables) (p : Pools) (m : Made) → ArePools t p → AreMade t m → length m.lists.offsets.items ≡ length p.lists.keys
lists_count t p m ps ms =
    ap length ms.lists.at ∙ length_aligned_offsets (λ (x : List ℕ). x) (lists_begin t) (type_lists t) ∙ ap length (sym ps.lists)

pub arrays_count : (t : Tables) (p : Pools) (m : Made) → ArePools t p → AreMade t m → length m.arrays.offsets.items ≡ length p.arrays.keys
arrays_count t p m ps ms = ap length ms.arrays.at ∙ length_offsets (λ (x : List ℕ). x) (arrays_begin t) (value_arrays t) ∙ ap length (sym ps.arrays)

pub members_count : (t : Tables) (m : Made) → AreMade t m → length m.members.offsets.items ≡ length t.classes
members_count t m ms = ap length ms.members.at ∙ length_offsets class_data (members_begin t) (listed t) ∙ length_listed t

-- the tables
pub strings_are : (t : Tables) (m : Made) → AreMade t m → words m.strings.offsets.items ≡ strings_table t
unfolding strings_table
strings_are t m ms = ap words ms.strings.at

protos_same : (t : Tables) → flat_map (proto_bytes (type_lists t) (aligned_offsets (λ (x : List ℕ). x) (lists_begin t) (type_lists t))) t.protos ≡ protos_table t
unfolding protos_table list_at proto_bytes
protos_same t = refl

pub protos_are : (t : Tables) (p : Pools) (m : Made) → ArePools t p → AreMade t m → flat_map (proto_bytes p.lists.keys m.lists.offsets.items) t.protos ≡ protos_table t
protos_are t p m ps ms =
    ap (λ k. flat_map (proto_bytes k m.lists.offsets.items) t.protos) ps.lists
    ∙ ap (λ o. flat_map (proto_bytes (type_lists t) o) t.protos) ms.lists.at ∙ protos_same t

definition_is : (t : Tables) (p : Pools) (m : Made) → ArePools t p → AreMade t m → (c : Class) (o : ℕ) → definition p m c o ≡ class_words t c o
unfolding list_at
definition_is t p m ps ms c o = rw (ps.lists, ms.lists.at, ps.arrays, ms.arrays.at) refl

definitions_are : (t : Tables) (p : Pools) (m : Made) → ArePools t p → AreMade t m → (cs : List Class) (os : List ℕ) → all_definitions p m cs os ≡ definitions t cs os
definitions_are t p m ps ms [] os = refl
definitions_are t p m ps ms (c ∷ cs) [] = refl
definitions_are t p m ps ms (c ∷ cs) (o ∷ os) =
    ap (λ z. z ∷ all_definitions p m cs os) (definition_is t p m ps ms c o) ∙ ap (λ z. class_words t c o ∷ z) (definitions_are t p m ps ms cs os)

pub classes_are : (t : Tables) (p : Pools) (m : Made) → ArePools t p → AreMade t m
    → flat_map words (all_definitions p m t.classes m.members.offsets.items) ≡ classes_table t
unfolding classes_table
classes_are t p m ps ms =
    ap (flat_map words) (definitions_are t p m ps ms t.classes m.members.offsets.items) ∙ ap (λ z. flat_map words (definitions t t.classes z)) ms.members.at

pub ids_put : (t : Tables) (a b c old o1 o2 new : List ℕ) → a ≡ strings_table t → b ≡ words t.types → c ≡ protos_table t
    → o1 ≡ old ++ a → o2 ≡ o1 ++ b → new ≡ o2 ++ c → new ≡ old ++ ids_part t
unfolding ids_part
ids_put t a b c old o1 o2 new ea eb ec h1 h2 h3 =
    join3 old (strings_table t) (words t.types) (protos_table t) o1 o2 new (h1 ∙ ap (λ z. old ++ z) ea) (h2 ∙ ap (λ z. o1 ++ z) eb) (h3 ∙ ap (λ z. o2 ++ z) ec)

pub owned_put : (t : Tables) (a b c old o1 o2 new : List ℕ) → a ≡ flat_map member_bytes t.fields → b ≡ flat_map member_bytes t.methods → c ≡ classes_table t
    → o1 ≡ old ++ a → o2 ≡ o1 ++ b → new ≡ o2 ++ c → new ≡ old ++ owned_part t
unfolding owned_part
owned_put t a b c old o1 o2 new ea eb ec h1 h2 h3 =
    join3 old (flat_map member_bytes t.fields) (flat_map member_bytes t.methods) (classes_table t) o1 o2 new
    (h1 ∙ ap (λ z. old ++ z) ea) (h2 ∙ ap (λ z. o1 ++ z) eb) (h3 ∙ ap (λ z. o2 ++ z) ec)

pub data_put : (t : Tables) (a b c d e old o1 o2 o3 o4 new : List ℕ) → a ≡ lists_part t → b ≡ codes_part t → c ≡ strings_part t → d ≡ members_part t → e ≡ arrays_part t
    → o1 ≡ old ++ a → o2 ≡ o1 ++ b → o3 ≡ o2 ++ c → o4 ≡ o3 ++ d → new ≡ o4 ++ e → new ≡ old ++ data_part t
unfolding data_part
data_put t a b c d e old o1 o2 o3 o4 new ea eb ec ed ee h1 h2 h3 h4 h5 =
    join5 old (lists_part t) (codes_part t) (strings_part t) (members_part t) (arrays_part t) o1 o2 o3 o4 new
    (h1 ∙ ap (λ z. old ++ z) ea) (h2 ∙ ap (λ z. o1 ++ z) eb) (h3 ∙ ap (λ z. o2 ++ z) ec) (h4 ∙ ap (λ z. o3 ++ z) ed) (h5 ∙ ap (λ z. o4 ++ z) ee)

tables_are : (t : Tables) → ids_part t ++ owned_part t ≡ tables_part t
unfolding ids_part owned_part tables_part
tables_are t = simp append_assoc refl

pub contents_put : (t : Tables) (old o1 o2 o3 o4 new : List ℕ) → o1 ≡ old ++ words (header_words t) → o2 ≡ o1 ++ ids_part t → o3 ≡ o2 ++ owned_part t
    → o4 ≡ o3 ++ map_part t → new ≡ o4 ++ data_part t → new ≡ old ++ contents t
unfolding contents
contents_put t old o1 o2 o3 o4 new h1 h2 h3 h4 h5 =
    join5 old (words (header_words t)) (ids_part t) (owned_part t) (map_part t) (data_part t) o1 o2 o3 o4 new h1 h2 h3 h4 h5
    ∙ ap (λ z. old ++ (words (header_words t) ++ z)) (sym (append_assoc (ids_part t) (owned_part t) (map_part t ++ data_part t)) ∙ ap (λ z. z ++ (map_part t ++ data_part t)) (tables_are t))

-- the digests
front_twice : (n m : ℕ) (xs ys : List ℕ) → n ≤ m → m ≤ length xs → take n (take m xs ++ ys) ≡ take n xs
front_twice zero m xs ys le few = refl
front_twice (suc n) zero xs ys le few = absurd (omega arith)
front_twice (suc n) (suc m) [] ys le few = absurd (omega arith)
front_twice (suc n) (suc m) (x ∷ xs) ys le few = ap (λ z. x ∷ z) (front_twice n m xs ys (omega arith) (omega arith))

pub sign_put : (old mid new : List ℕ) → 32 ≤ length old → mid ≡ take 12 old ++ (sha1 (drop 32 old) ++ drop 32 old)
    → new ≡ take 8 mid ++ (little_bytes 4 (adler (drop 12 mid)) ++ drop 12 mid) → new ≡ take 8 old ++ signed_bytes (drop 32 old)
unfolding signed_bytes
sign_put old mid new le h1 h2 =
    let s = sha1 (drop 32 old) ++ drop 32 old in
    let front : length (take 12 old) ≡ 12 = length-take-le 12 old (omega arith) in
    let rest : drop 12 mid ≡ s = ap (drop 12) h1 ∙ drop_at (take 12 old) s 12 front in
    let head : take 8 mid ≡ take 8 old = ap (take 8) h1 ∙ front_twice 8 12 old s (omega arith) (omega arith) in
    h2 ∙ ap (λ z. take 8 mid ++ (little_bytes 4 (adler z) ++ z)) rest ∙ ap (λ z. z ++ (little_bytes 4 (adler s) ++ s)) head

pub file_put : (t : Tables) (o1 o2 o3 new : List ℕ) → o1 ≡ magic → o2 ≡ o1 ++ zeros 24 → o3 ≡ o2 ++ contents t
    → new ≡ take 8 o3 ++ signed_bytes (drop 32 o3) → new ≡ image t
unfolding image signed signed_bytes
file_put t o1 o2 o3 new h1 h2 h3 h4 =
    let whole : o3 ≡ magic ++ (zeros 24 ++ contents t) = h3 ∙ ap (λ z. z ++ contents t) (h2 ∙ ap (λ z. z ++ zeros 24) h1) in
    let rest : drop 32 o3 ≡ contents t = ap (drop 32) whole in
    let head : take 8 o3 ≡ magic = ap (take 8) whole in
    h4 ∙ ap (λ z. take 8 o3 ++ (little_bytes 4 (adler (sha1 z ++ z)) ++ (sha1 z ++ z))) rest ∙ ap (λ z. z ++ (little_bytes 4 (adler (sha1 (contents t) ++ contents t)) ++ (sha1 (contents t) ++ contents t))) head

-- places that fit
both : (a b : Bool) → (a && b) ≡ true → (a ≡ true) × (b ≡ true)
both true b e = (refl, e)
both false b e = cc

half : (n : ℕ) → nat_le n 65535 ≡ true → n < 2 ^ 16
half n e = grind (arith, nat_tests)

ranges_fit : (places : List ℕ) (ranges : List Range) → fit places ranges ≡ true → All (λ r. IsHalf (slice_index places r.list)) ranges
ranges_fit places [] e = All-nil (λ r. IsHalf (slice_index places r.list))
ranges_fit places (r ∷ ranges) e =
    let h = both (nat_le (slice_index places r.list) 65535) (fit places ranges) e in
    All-cons (λ (q : Range). IsHalf (slice_index places q.list)) r ranges (half (slice_index places r.list) h.0) (ranges_fit places ranges h.1)

bodies_fit : (bodies : List Body) → all_fit bodies ≡ true → All (λ b. All (λ r. IsHalf (list_place b.lists r.list)) b.ranges) bodies
bodies_fit [] e = All-nil (λ b. All (λ r. IsHalf (list_place b.lists r.list)) b.ranges)
bodies_fit (b ∷ bodies) e =
    let h = both (fit (list_places b.lists) b.ranges) (all_fit bodies) e in
    All-cons (λ (d : Body). All (λ r. IsHalf (list_place d.lists r.list)) d.ranges) b bodies (ranges_fit (list_places b.lists) b.ranges h.0) (bodies_fit bodies h.1)

pub places_fit : (t : Tables) (b : Bool) → b ≡ all_fit (all_bodies t.classes) → b ≡ true → PlacesFit t
places_fit t b e h = bodies_fit (all_bodies t.classes) (sym e ∙ h)

ranges_not : (places : List ℕ) (ranges : List Range) → All (λ r. IsHalf (slice_index places r.list)) ranges → fit places ranges ≡ true
ranges_not places [] all = refl
ranges_not places (r ∷ ranges) all =
    let here : slice_index places r.list < 2 ^ 16 = All-head (λ (q : Range). IsHalf (slice_index places q.list)) r ranges all in
    let low : nat_le (slice_index places r.list) 65535 ≡ true = grind (arith, nat_tests) in
    rw (low, ranges_not places ranges (All-tail (λ (q : Range). IsHalf (slice_index places q.list)) r ranges all)) refl

bodies_not : (bodies : List Body) → All (λ b. All (λ r. IsHalf (list_place b.lists r.list)) b.ranges) bodies → all_fit bodies ≡ true
bodies_not [] all = refl
bodies_not (b ∷ bodies) all =
    let P = λ (d : Body). All (λ r. IsHalf (list_place d.lists r.list)) d.ranges in
    let here : fit (list_places b.lists) b.ranges ≡ true = ranges_not (list_places b.lists) b.ranges (All-head P b bodies all) in
    rw (here, bodies_not bodies (All-tail P b bodies all)) refl

pub places_not : (t : Tables) (b : Bool) → b ≡ all_fit (all_bodies t.classes) → b ≡ false → PlacesFit t → ⊥
places_not t b e h all = true_false (sym (bodies_not (all_bodies t.classes) all) ∙ (sym e ∙ h))
  where
    true_false : true ≡ false → ⊥
    true_false h = cc
