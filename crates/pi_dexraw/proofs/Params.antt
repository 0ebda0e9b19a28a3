-- Parameters of prototypes, one after another.
use Rattle.std.proofs.Common.{◌≡◌, ℕ, zero, suc, ◌+◌, ◌<◌, ◌≤◌, List, [], ◌∷◌, ◌++◌, length, drop, get_or, Bool, true, false, refl, sym, ap, ◌∙◌, arith, append_assoc, subst}
use Rattle.std.specs.Prelude.{◌==◌, ◌&&◌, not, nat_lt, nat_le, map, sum_by, if◌then◌else◌}
use Rattle.std.specs.List.{list_all}
use Rattle.std.proofs.lemmas.Bool.Decides.{nat_tests}
use Rattle.std.proofs.Math.ListN.{drop_of_length-le}
use Rattle.std.proofs.lemmas.List.{drop_more, append-nil}
use Rattle.std.proofs.lemmas.List.Sums.{sum_by-cons, sum_by-drop_more}
use Rattle.pi_format.specs.Tables.{count_at, string_ids, type_ids}
use Rattle.pi_format.specs.Rules.Entries.{list_fits, list_at}
use Rattle.pi_format.specs.Rules.Descriptors.{words_of_type, begins_with, is_void}
use Rattle.pi_format.specs.Rules.Strings.{type_units}
use Rattle.pi_format.specs.Rules.Members.{ProtoEntry, is_value_type, params_hold, short_agrees, proto_fits, proto_entry, proto_rises, proto_holds}
use Rattle.pi_format.proofs.Held.{both}
use Rattle.pi_dexraw.specs.Interfaces.{AreInRange}

-- a test of all elements, one after another
pub all_goes : (p : ℕ → Bool) (xs : List ℕ) (i : ℕ) → i < length xs → p (get_or xs i 0) ≡ true → list_all p (drop (i + 1) xs) ≡ list_all p (drop i xs)
all_goes p xs i lt e = rw (drop_more xs i 0 lt, e) refl

pub all_stops : (p : ℕ → Bool) (xs : List ℕ) (i : ℕ) → i < length xs → p (get_or xs i 0) ≡ false → list_all p (drop i xs) ≡ false
all_stops p xs i lt e = rw (drop_more xs i 0 lt, e) refl

pub all_ends : (p : ℕ → Bool) (xs : List ℕ) (i : ℕ) → length xs ≤ i → list_all p (drop i xs) ≡ true
all_ends p xs i le = rw (drop_of_length-le xs le) refl

-- a sum over all elements, one after another
pub sum_goes : (f : ℕ → ℕ) (xs : List ℕ) (i : ℕ) → i < length xs → f (get_or xs i 0) + sum_by f (drop (i + 1) xs) ≡ sum_by f (drop i xs)
sum_goes f xs i lt = sym (sum_by-drop_more f xs i 0 lt)

pub sum_ends : (f : ℕ → ℕ) (xs : List ℕ) (i : ℕ) → length xs ≤ i → sum_by f (drop i xs) ≡ 0
sum_ends f xs i le = rw (drop_of_length-le xs le) refl

-- the images of all elements, one after another
pub map_goes : (f : ℕ → ℕ) (done xs : List ℕ) (i : ℕ) → i < length xs
    → (done ++ f (get_or xs i 0) ∷ []) ++ map f (drop (i + 1) xs) ≡ done ++ map f (drop i xs)
map_goes f done xs i lt = rw (drop_more xs i 0 lt) (append_assoc done (f (get_or xs i 0) ∷ []) (map f (drop (i + 1) xs)))

pub map_ends : (f : ℕ → ℕ) (done xs : List ℕ) (i : ℕ) → length xs ≤ i → done ++ map f (drop i xs) ≡ done
map_ends f done xs i le = rw (drop_of_length-le xs le) (append-nil done)

-- what all elements pass, each passes
pub each_passes : (p : ℕ → Bool) (xs : List ℕ) (k : ℕ) → list_all p xs ≡ true → k < length xs → p (get_or xs k 0) ≡ true
each_passes p [] k e lt = absurd (omega arith)
each_passes p (x ∷ xs) zero e lt = (both (p x) (list_all p xs) e).0
each_passes p (x ∷ xs) (suc k) e lt = each_passes p xs k ((both (p x) (list_all p xs) e).1) (omega arith)

-- a value is one of the types
pub value_in_range : (file : List ℕ) (t : ℕ) → is_value_type file t ≡ true → t < count_at file type_ids
value_in_range file t e = below t (count_at file type_ids) ((both (nat_lt t (count_at file type_ids)) (not (is_void (type_units file t))) e).0)
  where
    below : (a b : ℕ) → nat_lt a b ≡ true → a < b
    below a b e = grind (arith, nat_tests)

-- parameters that hold are types
pub params_in_range : (file params : List ℕ) → params_hold file params ≡ true → AreInRange (count_at file type_ids) params
unfolding params_hold
params_in_range file params e = record {
  below = λ k lt. value_in_range file (get_or params k 0)
      (each_passes (is_value_type file) params k ((both (list_all (is_value_type file) params) (nat_le (sum_by (λ t. words_of_type (type_units file t)) params) 255) e).0) lt);
}

-- each parameter has a word, so more than 255 of them have too many
one_at_least : (b : Bool) → 1 ≤ (if b then 2 else 1)
one_at_least true = omega arith
one_at_least false = omega arith

words_at_least : (file params : List ℕ) → length params ≤ sum_by (λ t. words_of_type (type_units file t)) params
words_at_least file [] = omega arith
words_at_least file (t ∷ params) =
    omega (arith, words_at_least file params, one_at_least (begins_with 74 (type_units file t)), sum_by-cons (λ s. words_of_type (type_units file s)) t params)

pub many_params : (file params : List ℕ) → 255 < length params → params_hold file params ≡ false
unfolding params_hold
many_params file params lt =
    no_second (list_all (is_value_type file) params) (nat_le (sum_by (λ t. words_of_type (type_units file t)) params) 255)
    (above (sum_by (λ t. words_of_type (type_units file t)) params) (omega (arith, words_at_least file params)))
  where
    above : (a : ℕ) → 255 < a → nat_le a 255 ≡ false
    above a lt = grind (arith, nat_tests)

    no_second : (a b : Bool) → b ≡ false → (a && b) ≡ false
    no_second true b e = e
    no_second false b e = refl

-- a parameter that is no value
pub params_stop : (file params : List ℕ) → list_all (is_value_type file) params ≡ false → params_hold file params ≡ false
unfolding params_hold
params_stop file params e = ap (λ (b : Bool). b && nat_le (sum_by (λ t. words_of_type (type_units file t)) params) 255) e

-- all parameters are values
pub params_end : (file params : List ℕ) (words : ℕ) → list_all (is_value_type file) params ≡ true
    → words ≡ sum_by (λ t. words_of_type (type_units file t)) params → params_hold file params ≡ nat_le words 255
unfolding params_hold
params_end file params words e sum =
    ap (λ (b : Bool). b && nat_le (sum_by (λ t. words_of_type (type_units file t)) params) 255) e
    ∙ ap (λ (n : ℕ). nat_le n 255) (sym sum)

-- a prototype that fits has a list of parameters
pub fits_list : (file : List ℕ) (e : ProtoEntry) → proto_fits file e ≡ true → list_fits file e.params ≡ true
fits_list file e h =
    let more = (both (nat_lt e.short (count_at file string_ids)) (nat_lt e.ret (count_at file type_ids) && (list_fits file e.params && (params_hold file (list_at file e.params) && short_agrees file e))) h).1 in
    let list = (both (nat_lt e.ret (count_at file type_ids)) (list_fits file e.params && (params_hold file (list_at file e.params) && short_agrees file e)) more).1 in
    (both (list_fits file e.params) (params_hold file (list_at file e.params) && short_agrees file e) list).0

pub holds_list : (file : List ℕ) (k : ℕ) → proto_holds file k ≡ true → list_fits file (proto_entry file k).params ≡ true
holds_list file k h = fits_list file (proto_entry file k) ((both (proto_fits file (proto_entry file k)) (proto_rises file k) h).0)

-- what holds of all numbers below one holds of those below the next
pub one_more : (holds : ℕ → Bool) (i : ℕ) → ((k : ℕ) → k < i → holds k ≡ true) → holds i ≡ true → (k : ℕ) → k < i + 1 → holds k ≡ true
one_more holds i earlier e k lt = by_test (k == i) refl
  where
    by_test : (b : Bool) → (k == i) ≡ b → holds k ≡ true
    by_test true q =
        let same : k ≡ i = grind (arith, nat_tests) in
        subst (λ (j : ℕ). holds j ≡ true) (sym same) e
    by_test false q =
        let below : k < i = grind (arith, nat_tests) in
        earlier k below
