-- What was made is what the tables of the file lead to.
use Rattle.std.proofs.Common.{◌≡◌, ℕ, ◌+◌, ◌*◌, List, length, sym, ap, ◌∙◌, arith}
use Rattle.std.specs.List.{flat_map}
use Rattle.pi_parts.specs.Parts.{offsets, aligned, aligned_offsets}
use Rattle.pi_dextables.specs.declared.tables.Tables.{Tables}
use Rattle.pi_dextables.specs.Codes.{code_item}
use Rattle.pi_dextables.specs.Items.{string_item}
use Rattle.pi_dextables.specs.Rows.{all_bodies, all_rows, class_data}
use Rattle.pi_dextables.specs.Image.{type_lists, value_arrays, kind_counts, positive, map_begin, lists_begin, lists_part, codes_begin, codes_part, strings_begin, strings_part, members_begin, members_part, listed, arrays_begin, arrays_part, code_offsets, file_end}
use Rattle.pi_dextables.proofs.Steps.{steps}

-- where sections begin
pub at_lists : (t : Tables) (map kinds at : ℕ) → map ≡ map_begin t → kinds ≡ positive (kind_counts t) → at ≡ map + (4 + 12 * kinds) → at ≡ lists_begin t
at_lists t map kinds at m k e = let s = (steps t).lists in e ∙ ap (λ n. map + (4 + 12 * n)) k ∙ ap (λ n. n + (4 + 12 * positive (kind_counts t))) m ∙ omega (arith, s)

pub at_codes : (t : Tables) (begin n at : ℕ) → begin ≡ lists_begin t → n ≡ length (lists_part t) → at ≡ begin + n → at ≡ codes_begin t
at_codes t begin n at b l e = e ∙ ap (λ k. k + n) b ∙ ap (λ k. lists_begin t + k) l ∙ sym ((steps t).codes)

pub at_strings : (t : Tables) (begin n at : ℕ) → begin ≡ codes_begin t → n ≡ length (codes_part t) → at ≡ begin + n → at ≡ strings_begin t
at_strings t begin n at b l e = e ∙ ap (λ k. k + n) b ∙ ap (λ k. codes_begin t + k) l ∙ sym ((steps t).strings)

pub at_members : (t : Tables) (begin n at : ℕ) → begin ≡ strings_begin t → n ≡ length (strings_part t) → at ≡ begin + n → at ≡ members_begin t
at_members t begin n at b l e = e ∙ ap (λ k. k + n) b ∙ ap (λ k. strings_begin t + k) l ∙ sym ((steps t).members)

pub at_arrays : (t : Tables) (begin n at : ℕ) → begin ≡ members_begin t → n ≡ length (members_part t) → at ≡ begin + n → at ≡ arrays_begin t
at_arrays t begin n at b l e = e ∙ ap (λ k. k + n) b ∙ ap (λ k. members_begin t + k) l ∙ sym ((steps t).arrays)

pub at_end : (t : Tables) (begin n at : ℕ) → begin ≡ arrays_begin t → n ≡ length (arrays_part t) → at ≡ begin + n → at ≡ file_end t
at_end t begin n at b l e = e ∙ ap (λ k. k + n) b ∙ ap (λ k. arrays_begin t + k) l ∙ sym ((steps t).end)

-- sections
pub lists_made : (t : Tables) (begin : ℕ) (keys : List (List ℕ)) (bytes : List ℕ) → begin ≡ lists_begin t → keys ≡ type_lists t
    → bytes ≡ aligned (λ (x : List ℕ). x) begin keys → bytes ≡ lists_part t
unfolding lists_part
lists_made t begin keys bytes b k e = e ∙ ap (λ n. aligned (λ (x : List ℕ). x) n keys) b ∙ ap (aligned (λ (x : List ℕ). x) (lists_begin t)) k

pub lists_placed : (t : Tables) (begin : ℕ) (keys : List (List ℕ)) (at : List ℕ) → begin ≡ lists_begin t → keys ≡ type_lists t
    → at ≡ aligned_offsets (λ (x : List ℕ). x) begin keys → at ≡ aligned_offsets (λ (x : List ℕ). x) (lists_begin t) (type_lists t)
lists_placed t begin keys at b k e = e ∙ ap (λ n. aligned_offsets (λ (x : List ℕ). x) n keys) b ∙ ap (aligned_offsets (λ (x : List ℕ). x) (lists_begin t)) k

pub codes_made : (t : Tables) (begin : ℕ) (bytes : List ℕ) → begin ≡ codes_begin t → bytes ≡ aligned code_item begin (all_bodies t.classes) → bytes ≡ codes_part t
unfolding codes_part
codes_made t begin bytes b e = e ∙ ap (λ n. aligned code_item n (all_bodies t.classes)) b

pub codes_placed : (t : Tables) (begin : ℕ) (at : List ℕ) → begin ≡ codes_begin t → at ≡ aligned_offsets code_item begin (all_bodies t.classes) → at ≡ code_offsets t
unfolding code_offsets
codes_placed t begin at b e = e ∙ ap (λ n. aligned_offsets code_item n (all_bodies t.classes)) b

pub strings_made : (t : Tables) (bytes : List ℕ) → bytes ≡ flat_map string_item t.strings → bytes ≡ strings_part t
unfolding strings_part
strings_made t bytes e = e

pub members_made : (t : Tables) (codes bytes : List ℕ) → codes ≡ code_offsets t → bytes ≡ flat_map class_data (all_rows codes t.classes) → bytes ≡ members_part t
unfolding members_part listed
members_made t codes bytes c e = e ∙ ap (λ z. flat_map class_data (all_rows z t.classes)) c

pub members_placed : (t : Tables) (begin : ℕ) (codes at : List ℕ) → begin ≡ members_begin t → codes ≡ code_offsets t → at ≡ offsets class_data begin (all_rows codes t.classes)
    → at ≡ offsets class_data (members_begin t) (listed t)
unfolding listed
members_placed t begin codes at b c e = e ∙ ap (λ n. offsets class_data n (all_rows codes t.classes)) b ∙ ap (λ z. offsets class_data (members_begin t) (all_rows z t.classes)) c

pub arrays_made : (t : Tables) (keys : List (List ℕ)) (bytes : List ℕ) → keys ≡ value_arrays t → bytes ≡ flat_map (λ (x : List ℕ). x) keys → bytes ≡ arrays_part t
unfolding arrays_part
arrays_made t keys bytes k e = e ∙ ap (flat_map (λ (x : List ℕ). x)) k

pub arrays_placed : (t : Tables) (begin : ℕ) (keys : List (List ℕ)) (at : List ℕ) → begin ≡ arrays_begin t → keys ≡ value_arrays t
    → at ≡ offsets (λ (x : List ℕ). x) begin keys → at ≡ offsets (λ (x : List ℕ). x) (arrays_begin t) (value_arrays t)
arrays_placed t begin keys at b k e = e ∙ ap (λ n. offsets (λ (x : List ℕ). x) n keys) b ∙ ap (offsets (λ (x : List ℕ). x) (arrays_begin t)) k

-- a section that was made: where it begins, its bytes, and how many they are
pub record Ready (begin at n : ℕ) (part bytes : List ℕ) : Type 0 where
  pub is : at ≡ begin
  pub same : bytes ≡ part
  pub long : n ≡ length part

ready : (begin at n : ℕ) (part bytes : List ℕ) → at ≡ begin → bytes ≡ part → n ≡ length bytes → Ready begin at n part bytes
ready begin at n part bytes is same long = record { is = is; same = same; long = long ∙ ap length same }

pub lists_ready : (t : Tables) (map kinds at n : ℕ) (keys : List (List ℕ)) (bytes : List ℕ) → map ≡ map_begin t → kinds ≡ positive (kind_counts t)
    → at ≡ map + (4 + 12 * kinds) → keys ≡ type_lists t → bytes ≡ aligned (λ (x : List ℕ). x) at keys → n ≡ length bytes
    → Ready (lists_begin t) at n (lists_part t) bytes
lists_ready t map kinds at n keys bytes m k e ks b l =
    let is = at_lists t map kinds at m k e in
    ready (lists_begin t) at n (lists_part t) bytes is (lists_made t at keys bytes is ks b) l

pub codes_ready : (t : Tables) (begin size at n : ℕ) (bytes : List ℕ) → begin ≡ lists_begin t → size ≡ length (lists_part t) → at ≡ begin + size
    → bytes ≡ aligned code_item at (all_bodies t.classes) → n ≡ length bytes → Ready (codes_begin t) at n (codes_part t) bytes
codes_ready t begin size at n bytes b s e made l =
    let is = at_codes t begin size at b s e in
    ready (codes_begin t) at n (codes_part t) bytes is (codes_made t at bytes is made) l

pub strings_ready : (t : Tables) (begin size at n : ℕ) (bytes : List ℕ) → begin ≡ codes_begin t → size ≡ length (codes_part t) → at ≡ begin + size
    → bytes ≡ flat_map string_item t.strings → n ≡ length bytes → Ready (strings_begin t) at n (strings_part t) bytes
strings_ready t begin size at n bytes b s e made l =
    ready (strings_begin t) at n (strings_part t) bytes (at_strings t begin size at b s e) (strings_made t bytes made) l

pub members_ready : (t : Tables) (begin size at n : ℕ) (codes bytes : List ℕ) → begin ≡ strings_begin t → size ≡ length (strings_part t) → at ≡ begin + size
    → codes ≡ code_offsets t → bytes ≡ flat_map class_data (all_rows codes t.classes) → n ≡ length bytes
    → Ready (members_begin t) at n (members_part t) bytes
members_ready t begin size at n codes bytes b s e c made l =
    ready (members_begin t) at n (members_part t) bytes (at_members t begin size at b s e) (members_made t codes bytes c made) l

pub arrays_ready : (t : Tables) (begin size at n : ℕ) (keys : List (List ℕ)) (bytes : List ℕ) → begin ≡ members_begin t → size ≡ length (members_part t)
    → at ≡ begin + size → keys ≡ value_arrays t → bytes ≡ flat_map (λ (x : List ℕ). x) keys → n ≡ length bytes
    → Ready (arrays_begin t) at n (arrays_part t) bytes
arrays_ready t begin size at n keys bytes b s e ks made l =
    ready (arrays_begin t) at n (arrays_part t) bytes (at_arrays t begin size at b s e) (arrays_made t keys bytes ks made) l
