-- A file that says closed tables whose types are descriptors keeps X13. What its strings and types are.
use Rattle.std.proofs.Common.{◌≡◌, ℕ, zero, suc, ◌-◌, ◌<◌, List, [], ◌∷◌, length, map, get_or, None, option_map, Bool, true, refl, ap, ◌∙◌, subst, arith, lt-ltb}
use Rattle.std.specs.Prelude.{◌==◌, ◌&&◌, ◌||◌, nat_lt, All, IsTrue}
use Rattle.std.specs.declared.cmp.Ordering.{Ordering}
use Rattle.std.specs.declared.cmp.Ordering.TheVariants.{Less}
use Rattle.std.specs.List.{list_all}
use Rattle.std.specs.List.Sorted.{IsStrictlySortedBy}
use Rattle.std.specs.Ordering.{nat_cmp}
use Rattle.std.proofs.lemmas.Bool.{and_parts, and_from, or_right}
use Rattle.std.proofs.lemmas.Bool.Decides.{nat_tests}
use Rattle.std.proofs.lemmas.Map.Keys.{Less-from_sorted}
use Rattle.std.proofs.lemmas.Option.{slice_get-get_or}
use Rattle.pi_format.specs.Tables.{count_at, string_ids, type_ids}
use Rattle.pi_format.specs.Rules.Descriptors.{is_descriptor}
use Rattle.pi_format.specs.Rules.Entries.{first_bad, entry_at, broken_entry}
use Rattle.pi_format.specs.Rules.Strings.{string_units, type_string, type_units, type_holds, broken_types}
use Rattle.pi_dextables.specs.declared.tables.Tables.{Tables}
use Rattle.pi_dextables.specs.Said.{IsSaid}
use Rattle.pi_dextables.specs.Writable.{IsWritable}
use Rattle.pi_dextables.proofs.Each.{none_bad}
use Rattle.pi_tablesaid.specs.Entries.{text_at, type_at}
use Rattle.pi_tablesaid.specs.Closed.{IsString, IsType, IsClosed}

-- a rule on entries that holds of each of them is not broken
pub entries_keep : (file : List ℕ) (table width : ℕ) (holds : ℕ → Bool) (n : ℕ) → count_at file table ≡ n
    → ((k : ℕ) → k < n → holds k ≡ true) → broken_entry file table width holds ≡ None
entries_keep file table width holds n count each =
    let none : first_bad holds 0 (count_at file table) ≡ None = rw count (none_bad holds n each) in
    ap (option_map (entry_at file table width)) none

-- a number below a bound, by what both are
pub is_below : (a b m n : ℕ) → a ≡ m → b ≡ n → m < n → nat_lt a b ≡ true
is_below a b m n e f lt = rw (e, f) (lt-ltb m n lt)

-- what is asked of what each entry says is asked of what the one of a number says
pub asked_at : {A B : Type 0} (test : B → Bool) (f : A → B) (xs : List A) (k : ℕ) (d : A) → list_all test (map f xs) ≡ true → k < length xs
    → test (f (get_or xs k d)) ≡ true
asked_at test f [] k d all lt = absurd (omega arith)
asked_at test f (x ∷ xs) zero d all lt = (and_parts (test (f x)) (list_all test (map f xs)) all).0
asked_at test f (x ∷ xs) (suc k) d all lt = asked_at test f xs k d ((and_parts (test (f x)) (list_all test (map f xs)) all).1) (omega arith)

-- entries that are told in order where the list rises: each but the first is above the one before it
pub each_rises : {A : Type 0} (order : A → A → Ordering) (xs : List A) (d : A) (less : ℕ → ℕ → Bool) → IsStrictlySortedBy order xs
    → ((j k : ℕ) → j < length xs → k < length xs → order (get_or xs j d) (get_or xs k d) ≡ Less → less j k ≡ true)
    → (k : ℕ) → k < length xs → ((k == 0) || less (k - 1) k) ≡ true
each_rises order xs d less rise tells zero lt = refl
each_rises order xs d less rise tells (suc k) lt =
    let before : k ≡ suc k - 1 = omega arith in
    let rises : less k (suc k) ≡ true = tells k (suc k) (omega arith) lt (Less-from_sorted order xs k (suc k) d rise (omega arith) lt) in
    or_right (suc k == 0) (less (suc k - 1) (suc k)) (subst (λ (j : ℕ). less j (suc k) ≡ true) before rises)

-- the strings of the file, and the strings and the descriptors of its types
pub string_is : (file : List ℕ) (t : Tables) → IsSaid file t → (i : ℕ) → IsString t i → string_units file i ≡ text_at t i
string_is file t said i lt = (said.string i (text_at t i) (slice_get-get_or t.strings i [] lt)).is

pub type_string_is : (file : List ℕ) (t : Tables) → IsSaid file t → (i : ℕ) → IsType t i → type_string file i ≡ get_or t.types i 0
type_string_is file t said i lt = said.ty i (get_or t.types i 0) (slice_get-get_or t.types i 0 lt)

pub type_is : (file : List ℕ) (t : Tables) → IsSaid file t → All (IsString t) t.types → (i : ℕ) → IsType t i → type_units file i ≡ type_at t i
type_is file t said named i lt =
    ap (string_units file) (type_string_is file t said i lt) ∙ string_is file t said (get_or t.types i 0) (named i 0 lt)

-- a number that compares as less is less
less_is : (m n : ℕ) → nat_cmp m n ≡ Less → nat_lt m n ≡ true
less_is m n less = grind (arith, nat_tests)

types_rise : (file : List ℕ) (t : Tables) → IsSaid file t → IsStrictlySortedBy nat_cmp t.types → (k : ℕ) → IsType t k
    → ((k == 0) || nat_lt (type_string file (k - 1)) (type_string file k)) ≡ true
types_rise file t said rise =
    each_rises nat_cmp t.types 0 (λ j k. nat_lt (type_string file j) (type_string file k)) rise
    (λ j k a b less. told (type_string file j) (type_string file k) (get_or t.types j 0) (get_or t.types k 0)
    (type_string_is file t said j a) (type_string_is file t said k b) less)
  where
    told : (a b m n : ℕ) → a ≡ m → b ≡ n → nat_cmp m n ≡ Less → nat_lt a b ≡ true
    told a b m n e f less = rw (e, f) (less_is m n less)

-- X13, of tables whose types name strings and rise
pub types_hold : (file : List ℕ) (t : Tables) → IsSaid file t → All (IsString t) t.types → IsStrictlySortedBy nat_cmp t.types
    → IsTrue (list_all is_descriptor (map (text_at t) t.types)) → broken_types file ≡ None
types_hold file t said named rise asked = entries_keep file type_ids 4 (type_holds file) (length t.types) said.types holds
  where
    holds : (k : ℕ) → IsType t k → type_holds file k ≡ true
    holds k lt =
        and_from (nat_lt (type_string file k) (count_at file string_ids))
        (((k == 0) || nat_lt (type_string file (k - 1)) (type_string file k)) && is_descriptor (type_units file k))
        (is_below (type_string file k) (count_at file string_ids) (get_or t.types k 0) (length t.strings)
        (type_string_is file t said k lt) said.strings (named k 0 lt))
        (and_from ((k == 0) || nat_lt (type_string file (k - 1)) (type_string file k)) (is_descriptor (type_units file k))
        (types_rise file t said rise k lt)
        (ap is_descriptor (type_is file t said named k lt) ∙ asked_at is_descriptor (text_at t) t.types k 0 asked lt))

pub types_kept : (file : List ℕ) (t : Tables) → IsSaid file t → IsWritable t → IsClosed t
    → IsTrue (list_all is_descriptor (map (text_at t) t.types)) → broken_types file ≡ None
types_kept file t said fits closed asked = types_hold file t said closed.types closed.types_rise asked
