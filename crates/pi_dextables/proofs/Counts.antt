-- The part of a file that has things has at least a byte for each of them.
use Rattle.std.proofs.Common.{◌≡◌, ℕ, suc, ◌+◌, ◌<◌, ◌≤◌, List, [], ◌∷◌, ◌++◌, length, map, drop, Bool, true, false, if◌then◌else◌, refl, ap, length-append, arith}
use Rattle.std.specs.List.{flat_map, list_any, All}
use Rattle.std.specs.Prelude.{◌==◌, ◌&&◌}
use Rattle.std.proofs.lemmas.List.{length-map}
use Rattle.std.proofs.lemmas.List.Elements.{All-nil, All-cons, All-head, All-tail, All-append}
use Rattle.std.proofs.lemmas.Bool.Decides.{nat_tests}
use Rattle.pi_model.specs.Texts.{same_text}
use Rattle.pi_bytes.specs.Mutf8.{spelling, spellings}
use Rattle.pi_parts.specs.Parts.{aligned, padding}
use Rattle.pi_parts.proofs.Stands.{length_zeros}
use Rattle.pi_parts.proofs.ReadBack.{few_uleb}
use Rattle.pi_dextables.specs.declared.tables.Body.{Body}
use Rattle.pi_dextables.specs.declared.tables.Class.{Class}
use Rattle.pi_dextables.specs.declared.tables.MethodRow.{MethodRow}
use Rattle.pi_dextables.specs.declared.tables.Tables.{Tables}
use Rattle.pi_dextables.specs.declared.tables.Value.{Value}
use Rattle.pi_dextables.specs.Items.{type_list, string_item, array_item, encoded_bytes, lists_in, arrays_in, with_new, with_all}
use Rattle.pi_dextables.specs.Codes.{code_item}
use Rattle.pi_dextables.specs.Rows.{all_bodies, all_rows, bodies_of, bodies_in, method_rows, offsets_left, class_rows_with, class_data, has_no_rows, field_row}
use Rattle.pi_dextables.specs.Image.{type_lists, value_arrays, listing, lists_begin, lists_part, codes_begin, codes_part, strings_part, members_part, arrays_part, listed, code_offsets}
use Rattle.pi_dextables.proofs.Each.{all_always}
use Rattle.pi_dextables.proofs.ClassData.{class_data_long}

-- a thing of which there is a byte
abbrev HasByte : List ℕ → Type 0
HasByte x = 0 < length x

-- things one behind the other
many_bytes : {X : Type 0} (f : X → List ℕ) (xs : List X) → All (λ x. HasByte (f x)) xs → length xs ≤ length (flat_map f xs)
many_bytes f [] all = omega arith
many_bytes f (x ∷ xs) all =
    let here : 0 < length (f x) = All-head (λ y. HasByte (f y)) x xs all in
    let rest = many_bytes f xs (All-tail (λ y. HasByte (f y)) x xs all) in
    simp length-append (omega (arith, here, rest))

pub many_always : {X : Type 0} (f : X → List ℕ) → ((x : X) → HasByte (f x)) → (xs : List X) → length xs ≤ length (flat_map f xs)
many_always f some xs = many_bytes f xs (all_always (λ x. HasByte (f x)) xs some)

many_aligned : {X : Type 0} (f : X → List ℕ) (at : ℕ) (xs : List X) → All (λ x. HasByte (f x)) xs → length xs ≤ length (aligned f at xs)
many_aligned f at [] all = omega arith
many_aligned f at (x ∷ xs) all =
    let next : ℕ = at + padding at + length (f x) in
    let here : 0 < length (f x) = All-head (λ y. HasByte (f y)) x xs all in
    let rest = many_aligned f next xs (All-tail (λ y. HasByte (f y)) x xs all) in
    simp length-append (omega (arith, here, rest))

-- and the first of them stands behind its padding
first_aligned : {X : Type 0} (f : X → List ℕ) (at : ℕ) (xs : List X) → All (λ x. HasByte (f x)) xs → 0 < length xs → padding at < length (aligned f at xs)
first_aligned f at [] all lt = absurd (omega arith)
first_aligned f at (x ∷ xs) all lt =
    let here : 0 < length (f x) = All-head (λ y. HasByte (f y)) x xs all in
    simp length-append (omega (arith, here, length_zeros (padding at)))

-- things of which equal ones stand once
new_kept : (P : List ℕ → Type 0) (things : List (List ℕ)) (x : List ℕ) (there : Bool) → All P things → P x
    → All P (if there then things else things ++ x ∷ [])
new_kept P things x true all here = all
new_kept P things x false all here = All-append P things (x ∷ []) all (All-cons P x [] here (All-nil P))

all_kept : (P : List ℕ → Type 0) (things xs : List (List ℕ)) → All P things → All P xs → All P (with_all things xs)
all_kept P things [] all more = all
all_kept P things (x ∷ xs) all more =
    all_kept P (with_new things x) xs
    (new_kept P things x (list_any (same_text x) things) all (All-head P x xs more))
    (All-tail P x xs more)

-- lists of types
list_some : (types : List ℕ) → HasByte (type_list types)
unfolding type_list
list_some types = omega arith

lists_some : (lists : List (List ℕ)) → All HasByte (lists_in lists)
lists_some [] = All-nil HasByte
lists_some ([] ∷ lists) = lists_some lists
lists_some ((x ∷ xs) ∷ lists) = All-cons HasByte (type_list (x ∷ xs)) (lists_in lists) (list_some (x ∷ xs)) (lists_some lists)

type_lists_some : (t : Tables) → All HasByte (type_lists t)
unfolding type_lists
type_lists_some t =
    all_kept HasByte (with_all [] (lists_in (map (λ p. p.params) t.protos))) (lists_in (map (λ c. c.faces) t.classes))
    (all_kept HasByte [] (lists_in (map (λ p. p.params) t.protos)) (All-nil HasByte) (lists_some (map (λ p. p.params) t.protos)))
    (lists_some (map (λ c. c.faces) t.classes))

few_lists : (t : Tables) → length (type_lists t) ≤ length (lists_part t)
unfolding lists_part
few_lists t = many_aligned (λ x. x) (lists_begin t) (type_lists t) (type_lists_some t)

-- code items
code_some : (b : Body) → HasByte (code_item b)
unfolding code_item
code_some b = omega arith

codes_some : (t : Tables) → All (λ b. HasByte (code_item b)) (all_bodies t.classes)
codes_some t = all_always (λ b. HasByte (code_item b)) (all_bodies t.classes) code_some

few_codes : (t : Tables) → length (all_bodies t.classes) ≤ length (codes_part t)
unfolding codes_part
few_codes t = many_aligned code_item (codes_begin t) (all_bodies t.classes) (codes_some t)

pub first_code : (t : Tables) → 0 < length (all_bodies t.classes) → padding (codes_begin t) < length (codes_part t)
unfolding codes_part
first_code t lt = first_aligned code_item (codes_begin t) (all_bodies t.classes) (codes_some t) lt

-- strings: each unit takes at least one byte
unit_some : (u : ℕ) → HasByte (spelling u)
unit_some u = grind (arith, nat_tests)

units_long : (units : List ℕ) → length units ≤ length (spellings units)
units_long units = many_always spelling unit_some units

pub string_long : (units : List ℕ) → length units < length (string_item units)
unfolding string_item
string_long units = simp length-append (omega (arith, units_long units))

string_some : (units : List ℕ) → HasByte (string_item units)
string_some units = omega (arith, string_long units)

few_strings : (t : Tables) → length t.strings ≤ length (strings_part t)
unfolding strings_part
few_strings t = many_always string_item string_some t.strings

-- static values: each of them takes at least one byte
value_some : (v : Value) → HasByte (encoded_bytes v)
unfolding encoded_bytes
value_some v = omega arith

pub array_long : (values : List Value) → length values < length (array_item values)
unfolding array_item
array_long values = simp length-append (omega (arith, many_always encoded_bytes value_some values, few_uleb (length values)))

array_some : (values : List Value) → HasByte (array_item values)
array_some values = omega (arith, array_long values)

arrays_some : (arrays : List (List Value)) → All HasByte (arrays_in arrays)
arrays_some [] = All-nil HasByte
arrays_some ([] ∷ arrays) = arrays_some arrays
arrays_some ((v ∷ vs) ∷ arrays) = All-cons HasByte (array_item (v ∷ vs)) (arrays_in arrays) (array_some (v ∷ vs)) (arrays_some arrays)

value_arrays_some : (t : Tables) → All HasByte (value_arrays t)
unfolding value_arrays
value_arrays_some t =
    all_kept HasByte [] (arrays_in (map (λ c. c.values) t.classes)) (All-nil HasByte) (arrays_some (map (λ c. c.values) t.classes))

few_arrays : (t : Tables) → length (value_arrays t) ≤ length (arrays_part t)
unfolding arrays_part
few_arrays t = many_bytes (λ x. x) (value_arrays t) (value_arrays_some t)

-- class data: of a class that has members
one_at_most : (a b c d long : ℕ) (none : Bool) → ((a == 0) && ((b == 0) && ((c == 0) && (d == 0)))) ≡ none → (none ≡ false → 0 < long)
    → (if a + b + c + d == 0 then 0 else 1) ≤ long
one_at_most a b c d long true e some = grind (arith, nat_tests)
one_at_most a b c d long false e some = (let lt : 0 < long = some refl in grind (arith, nat_tests))

length_methods : (offsets : List ℕ) (ms : List MethodRow) → length (method_rows offsets ms) ≡ length ms
length_methods offsets [] = refl
length_methods offsets (m ∷ ms) = ap suc (length_methods (offsets_left m.code offsets) ms)

class_some : (offsets : List ℕ) (c : Class)
    → (if length c.statics + length c.instances + length c.directs + length c.virtuals == 0 then 0 else 1) ≤ length (class_data (class_rows_with offsets c))
class_some offsets c =
    let rows = class_rows_with offsets c in
    let a : length rows.statics ≡ length c.statics = length-map c.statics field_row in
    let b : length rows.instances ≡ length c.instances = length-map c.instances field_row in
    let d : length rows.directs ≡ length c.directs = length_methods offsets c.directs in
    let v : length rows.virtuals ≡ length c.virtuals = length_methods (drop (length (bodies_in c.directs)) offsets) c.virtuals in
    rw (← a, ← b, ← d, ← v) (one_at_most (length rows.statics) (length rows.instances) (length rows.directs) (length rows.virtuals) (length (class_data rows))
    (has_no_rows rows) refl (class_data_long rows))

few_rows : (offsets : List ℕ) (cs : List Class) → listing cs ≤ length (flat_map class_data (all_rows offsets cs))
few_rows offsets [] = omega arith
few_rows offsets (c ∷ cs) =
    let later : List ℕ = drop (length (bodies_of c)) offsets in
    omega (arith, class_some offsets c, few_rows later cs, length-append (class_data (class_rows_with offsets c)) (flat_map class_data (all_rows later cs)))

few_members : (t : Tables) → listing t.classes ≤ length (members_part t)
unfolding members_part listed
few_members t = few_rows (code_offsets t) t.classes

-- all parts
pub record Few (t : Tables) : Type 0 where
  pub lists : length (type_lists t) ≤ length (lists_part t)
  pub codes : length (all_bodies t.classes) ≤ length (codes_part t)
  pub strings : length t.strings ≤ length (strings_part t)
  pub members : listing t.classes ≤ length (members_part t)
  pub arrays : length (value_arrays t) ≤ length (arrays_part t)

pub few : (t : Tables) → Few t
few t = record { lists = few_lists t; codes = few_codes t; strings = few_strings t; members = few_members t; arrays = few_arrays t }
