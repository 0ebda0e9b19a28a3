-- The texts of a file rise, and so do the strings of its types: the texts are distinct, and so are the types.
use Rattle.std.proofs.Common.{◌≡◌, ◌≢◌, ℕ, suc, ◌-◌, ◌<◌, ◌&&◌, ◌||◌, List, ◌++◌, Bool, true, false, Some, None, inl, inr, refl, subst, arith, get_or}
use Rattle.std.specs.Prelude.{◌==◌, nat_lt, slice_get}
use Rattle.std.specs.declared.cmp.Ordering.{Ordering}
use Rattle.std.specs.declared.cmp.Ordering.TheVariants.{Less, Equal, Greater}
use Rattle.std.specs.Ordering.{is_lt, nat_cmp}
use Rattle.std.specs.Cmp.Lexicographic.{slice_cmp}
use Rattle.std.proofs.lemmas.Bool.{cases_Bool, eqb-true}
use Rattle.std.proofs.lemmas.Bool.Decides.{nat_tests}
use Rattle.std.proofs.lemmas.Cmp.{nat_list_cmp_total, tied_itself}
use Rattle.pi_model.specs.Distinct.{all_distinct}
use Rattle.pi_model.specs.Texts.{same_text}
use Rattle.pi_model.specs.Program.{Program, same_name}
use Rattle.pi_format.specs.Tables.{count_at, string_ids, type_ids}
use Rattle.pi_format.specs.Rules.Descriptors.{is_descriptor}
use Rattle.pi_format.specs.Rules.Strings.{string_units, string_rises, type_string, type_units, type_holds, broken_string_order, broken_types}
use Rattle.pi_format.specs.Says.{named_file}
use Rattle.pi_format.specs.Says.Names.{texts_of, new_names, name_numbers, type_name}
use Rattle.pi_format.specs.Says.Classes.{types_said}
use Rattle.pi_format.specs.Core.{name_no}
use Rattle.pi_format.proofs.Held.{both, below, entry_holds, type_named}
use Rattle.pi_said.proofs.Lists.{listed_distinct, rises}
use Rattle.pi_said.proofs.Names.{text_equal, string_said}

-- what is asked of each entry but the first one
pub not_first : (k : ℕ) (b : Bool) → ((suc k == 0) || b) ≡ true → b ≡ true
not_first k b e = grind (arith, nat_tests)

pub one_back : (k : ℕ) → suc k - 1 ≡ k
one_back k = omega arith

pub less_is : (o : Ordering) → is_lt o ≡ true → o ≡ Less
less_is Less e = refl
less_is Equal e = cc
less_is Greater e = cc

-- a text is below another
abbrev pub Below : List ℕ → List ℕ → Type 0
Below a b = slice_cmp nat_cmp a b ≡ Less

pub below_differs : (a b : List ℕ) → Below a b → a ≢ b
below_differs a b less same =
    let tie : slice_cmp nat_cmp b b ≡ Equal = tied_itself nat_list_cmp_total b in
    let here : slice_cmp nat_cmp b b ≡ Less = subst (λ (t : List ℕ). slice_cmp nat_cmp t b ≡ Less) same less in
    cc

text_follows : (file : List ℕ) → broken_string_order file ≡ None → (k : ℕ) → suc k < count_at file string_ids → Below (string_units file k) (string_units file (suc k))
text_follows file none k lt =
    let holds : string_rises file (suc k) ≡ true = entry_holds file string_ids 4 (string_rises file) none (suc k) lt in
    let rising = not_first k (is_lt (slice_cmp nat_cmp (string_units file (suc k - 1)) (string_units file (suc k)))) holds in
    less_is (slice_cmp nat_cmp (string_units file k) (string_units file (suc k)))
    (subst (λ (j : ℕ). is_lt (slice_cmp nat_cmp (string_units file j) (string_units file (suc k))) ≡ true) (one_back k) rising)

-- a string is above each earlier one
pub texts_rise : (file : List ℕ) → broken_string_order file ≡ None → (j k : ℕ) → j < k → k < count_at file string_ids → Below (string_units file j) (string_units file k)
texts_rise file none = rises Below nat_list_cmp_total.trans (string_units file) (count_at file string_ids) (text_follows file none)

pub texts_distinct : (file : List ℕ) → broken_string_order file ≡ None → all_distinct same_text (texts_of file) ≡ true
texts_distinct file none =
    listed_distinct same_text (string_units file) 0 (count_at file string_ids)
    (λ j k less lt. differ (string_units file j) (string_units file k) (texts_rise file none j k less (omega arith)))
  where
    differ : (a b : List ℕ) → Below a b → same_text a b ≡ false
    differ a b less =
        elim (cases_Bool (same_text a b)) [
          | inl e ↦ absurd (below_differs a b less (text_equal a b e))
          | inr e ↦ e
        ]

type_follows : (file : List ℕ) → broken_types file ≡ None → (k : ℕ) → suc k < count_at file type_ids → type_string file k < type_string file (suc k)
type_follows file none k lt =
    let holds : type_holds file (suc k) ≡ true = entry_holds file type_ids 4 (type_holds file) none (suc k) lt in
    let rest = both (nat_lt (type_string file (suc k)) (count_at file string_ids))
    (((suc k == 0) || nat_lt (type_string file (suc k - 1)) (type_string file (suc k))) && is_descriptor (type_units file (suc k))) holds in
    let first = both ((suc k == 0) || nat_lt (type_string file (suc k - 1)) (type_string file (suc k))) (is_descriptor (type_units file (suc k))) rest.1 in
    let rising = below (type_string file (suc k - 1)) (type_string file (suc k)) (not_first k (nat_lt (type_string file (suc k - 1)) (type_string file (suc k))) first.0) in
    subst (λ (j : ℕ). type_string file j < type_string file (suc k)) (one_back k) rising

-- the string of a type is above that of each earlier one
pub types_rise : (file : List ℕ) → broken_types file ≡ None → (j k : ℕ) → j < k → k < count_at file type_ids → type_string file j < type_string file k
types_rise file none = rises (λ (a b : ℕ). a < b) (λ x y z a b. omega arith) (type_string file) (count_at file type_ids) (type_follows file none)

-- strings with one number have one text
number_of_one : (names : List (List ℕ)) (file : List ℕ) (i j : ℕ) → i < count_at file string_ids → j < count_at file string_ids
    → (get_or (name_numbers names file) i (name_no 0)).0 ≡ (get_or (name_numbers names file) j (name_no 0)).0 → string_units file i ≡ string_units file j
number_of_one names file i j a b same =
    let all = names ++ new_names names (texts_of file) in
    let first = string_said names file i a in
    let second = string_said names file j b in
    let moved : slice_get all (get_or (name_numbers names file) j (name_no 0)).0 ≡ Some (string_units file i) = subst (λ (n : ℕ). slice_get all n ≡ Some (string_units file i)) same first in
    cc

-- no two types have one name
pub types_distinct : (p : Program) (file : List ℕ) → broken_string_order file ≡ None → broken_types file ≡ None → all_distinct same_name (types_said (named_file p file)) ≡ true
types_distinct p file order types =
    listed_distinct same_name (type_name (named_file p file)) 0 (count_at file type_ids)
    (λ j k less lt. differ j k less (omega arith))
  where
    differ : (j k : ℕ) → j < k → k < count_at file type_ids → same_name (type_name (named_file p file) j) (type_name (named_file p file) k) ≡ false
    differ j k less lt =
        elim (cases_Bool (same_name (type_name (named_file p file) j) (type_name (named_file p file) k))) [
          | inl e ↦
              let there : type_string file k < count_at file string_ids = type_named file k types lt in
              let rising : type_string file j < type_string file k = types_rise file types j k less lt in
              let same = eqb-true (type_name (named_file p file) j).0 (type_name (named_file p file) k).0 e in
              absurd (below_differs (string_units file (type_string file j)) (string_units file (type_string file k))
              (texts_rise file order (type_string file j) (type_string file k) rising there)
              (number_of_one p.names file (type_string file j) (type_string file k) (omega arith) there same))
          | inr e ↦ e
        ]
