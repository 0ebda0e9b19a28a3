-- The names that a file brings are new and distinct, and the number of each of its strings is that of the name with its text.
use Rattle.std.proofs.Common.{◌≡◌, ℕ, zero, suc, ◌+◌, ◌<◌, ◌≤◌, not, List, [], ◌∷◌, ◌++◌, length, Bool, true, false, Option, Some, None, inl, inr, refl, sym, ap, ◌∙◌, arith, append_assoc, length-append, get_or}
use Rattle.std.specs.Prelude.{position, slice_get, cond, nat_lt, ◌==◌}
use Rattle.std.specs.List.{list_any, position_or_len}
use Rattle.std.proofs.lemmas.Bool.{cases_lt, lt-ltb, eqb-true}
use Rattle.std.proofs.lemmas.Bool.Decides.{nat_tests}
use Rattle.std.proofs.lemmas.Cmp.{nat_list_eq_equiv}
use Rattle.std.proofs.lemmas.List.{get_or_past}
use Rattle.std.proofs.lemmas.List.Quantifiers.{position-Some}
use Rattle.std.proofs.lemmas.List.Folds.{list_any_at}
use Rattle.std.proofs.lemmas.Option.{slice_get-get_or, slice_get_within}
use Rattle.pi_model.specs.Distinct.{all_distinct}
use Rattle.pi_model.specs.Texts.{same_text}
use Rattle.pi_format.specs.Core.{name_no}
use Rattle.pi_format.specs.Tables.{count_at, string_ids}
use Rattle.pi_format.specs.Rules.Strings.{string_units}
use Rattle.pi_format.specs.Says.Names.{texts_of, new_names, numbers_from, name_numbers}
use Rattle.pi_said.proofs.Lists.{length-listed, get_or-listed, apart_back, distinct-append, distinct-filter, filter_passes, length-filter_le}

-- two texts are the same exactly where they are equal
pub text_equal : (a b : List ℕ) → same_text a b ≡ true → a ≡ b
text_equal [] [] e = refl
text_equal [] (y ∷ ys) e = cc
text_equal (x ∷ xs) [] e = cc
text_equal (x ∷ xs) (y ∷ ys) e = by_head (x == y) refl (text_equal xs ys)
  where
    by_head : (b : Bool) → b ≡ (x == y) → (same_text xs ys ≡ true → xs ≡ ys) → (x ∷ xs) ≡ (y ∷ ys)
    by_head true h rest = let k = eqb-true x y (sym h) in let tail : same_text xs ys ≡ true = rw (sym h) at e in let l = rest tail in cc
    by_head false h rest = let k : false ≡ true = rw (sym h) at e in cc

pub same_back : (a b : List ℕ) → same_text a b ≡ same_text b a
same_back a b = nat_list_eq_equiv.symm a b

-- a place is found exactly where some element passes
found : {A : Type 0} (p : A → Bool) (xs : List A) (i : ℕ) (d : A) → position p xs ≡ Some i → list_any p xs ≡ true
found p xs i d e = let there = position-Some p xs i d e in list_any_at p xs i d there.0 there.1

later : (a b : ℕ) → nat_lt a b ≡ nat_lt (1 + a) (suc b)
later a b = grind (arith, nat_tests)

any_found : {A : Type 0} (p : A → Bool) (xs : List A) → list_any p xs ≡ nat_lt (position_or_len p xs) (length xs)
any_found p [] = refl
any_found p (x ∷ xs) = by_test (p x) refl (any_found p xs)
  where
    by_test : (b : Bool) → p x ≡ b → list_any p xs ≡ nat_lt (position_or_len p xs) (length xs)
        → list_any p (x ∷ xs) ≡ nat_lt (position_or_len p (x ∷ xs)) (length (x ∷ xs))
    by_test true e rest = rw e (sym (lt-ltb 0 (suc (length xs)) (omega arith)))
    by_test false e rest = rw e (rest ∙ later (position_or_len p xs) (length xs))

cond_none : {A : Type 0} (b : Bool) (x : A) → cond b (Some x) None ≡ None → b ≡ false
cond_none true x e = cc
cond_none false x e = refl

not_found : {A : Type 0} (p : A → Bool) (xs : List A) → position p xs ≡ None → list_any p xs ≡ false
not_found p xs e = any_found p xs ∙ cond_none (nat_lt (position_or_len p xs) (length xs)) (position_or_len p xs) e

-- as many numbers as texts
pub length-numbers : (names : List (List ℕ)) (next : ℕ) (texts : List (List ℕ)) → length (numbers_from names next texts) ≡ length texts
length-numbers names next [] = refl
length-numbers names next (text ∷ texts) = by_place (position (same_text text) names) refl (λ n. length-numbers names n texts)
  where
    by_place : (p : Option ℕ) → position (same_text text) names ≡ p → ((n : ℕ) → length (numbers_from names n texts) ≡ length texts)
        → length (numbers_from names next (text ∷ texts)) ≡ length (text ∷ texts)
    by_place (Some n) e rest = rw e (omega (arith, rest next))
    by_place None e rest = rw e (omega (arith, rest (next + 1)))

-- what stands behind a list, and in its front
get_behind : {A : Type 0} (xs ys : List A) (y : A) (zs : List A) → slice_get (xs ++ (ys ++ y ∷ zs)) (length xs + length ys) ≡ Some y
get_behind [] [] y zs = refl
get_behind {A = A} [] (x ∷ ys) y zs =
    let place : length {A = A} [] + length (x ∷ ys) ≡ suc (length {A = A} [] + length ys) = omega arith in
    rw place (get_behind [] ys y zs)
get_behind (x ∷ xs) ys y zs =
    let place : length (x ∷ xs) + length ys ≡ suc (length xs + length ys) = omega arith in
    rw place (get_behind xs ys y zs)

get_front : {A : Type 0} (xs ys : List A) (i : ℕ) (x : A) → slice_get xs i ≡ Some x → slice_get (xs ++ ys) i ≡ Some x
get_front [] ys i x e = cc
get_front (y ∷ xs) ys zero x e = e
get_front (y ∷ xs) ys (suc i) x e = get_front xs ys i x e

-- the number of a text is that of the name with the text, where some of the new names stand there already
said_from : (names so_far texts : List (List ℕ)) (i : ℕ) → i < length texts
    → slice_get (names ++ (so_far ++ new_names names texts)) (get_or (numbers_from names (length names + length so_far) texts) i (name_no 0)).0
    ≡ Some (get_or texts i [])
said_from names so_far [] i lt = absurd (omega arith)
said_from names so_far (text ∷ texts) i lt = by_place (position (same_text text) names) refl i lt (λ further j less. said_from names further texts j less)
  where
    by_place : (p : Option ℕ) → position (same_text text) names ≡ p → (i : ℕ) → i < length (text ∷ texts)
        → ((further : List (List ℕ)) (j : ℕ) → j < length texts
        → slice_get (names ++ (further ++ new_names names texts)) (get_or (numbers_from names (length names + length further) texts) j (name_no 0)).0
        ≡ Some (get_or texts j []))
        → slice_get (names ++ (so_far ++ new_names names (text ∷ texts))) (get_or (numbers_from names (length names + length so_far) (text ∷ texts)) i (name_no 0)).0
        ≡ Some (get_or (text ∷ texts) i [])
    by_place (Some n) e zero less rest =
        let there = position-Some (same_text text) names n [] e in
        let same : text ≡ get_or names n [] = text_equal text (get_or names n []) there.1 in
        rw e (get_front names _ n text (slice_get-get_or names n [] there.0 ∙ ap (λ (t : List ℕ). Some t) (sym same)))
    by_place (Some n) e (suc j) less rest = rw (e, found (same_text text) names n [] e) (rest so_far j (omega arith))
    by_place None e zero less rest = rw (e, not_found (same_text text) names e) (get_behind names so_far text (new_names names texts))
    by_place None e (suc j) less rest =
        let next : length names + length (so_far ++ text ∷ []) ≡ length names + length so_far + 1 = omega (arith, length-append so_far (text ∷ [])) in
        let more : (so_far ++ text ∷ []) ++ new_names names texts ≡ so_far ++ text ∷ new_names names texts = append_assoc so_far (text ∷ []) (new_names names texts) in
        let k = rest (so_far ++ text ∷ []) j (omega arith) in
        rw (e, not_found (same_text text) names e) (rw (next, more) at k)

pub name_said : (names texts : List (List ℕ)) (i : ℕ) → i < length texts
    → slice_get (names ++ new_names names texts) (get_or (numbers_from names (length names) texts) i (name_no 0)).0 ≡ Some (get_or texts i [])
name_said names texts i lt =
    let none : length names + length {A = List ℕ} [] ≡ length names = omega arith in
    rw none at (said_from names [] texts i lt)

-- the number of any string is that of a name, where there is one
pub number_said : (names texts : List (List ℕ)) → 0 < length texts → (i : ℕ)
    → (get_or (numbers_from names (length names) texts) i (name_no 0)).0 < length names + length (new_names names texts)
number_said names texts some i =
    let numbers = numbers_from names (length names) texts in
    let all = names ++ new_names names texts in
    let long : length all ≡ length names + length (new_names names texts) = length-append names (new_names names texts) in
    elim (cases_lt i (length texts)) [
      | inl lt ↦
          let there : (get_or numbers i (name_no 0)).0 < length all = slice_get_within all (get_or numbers i (name_no 0)).0 (get_or texts i []) (name_said names texts i lt) in
          omega arith
      | inr le ↦
          let first : (get_or numbers 0 (name_no 0)).0 < length all = slice_get_within all (get_or numbers 0 (name_no 0)).0 (get_or texts 0 []) (name_said names texts 0 some) in
          rw (get_or_past numbers i (name_no 0) (omega (arith, length-numbers names (length names) texts))) (omega arith)
    ]

-- the new names are distinct from each other and from those that there are
pub names_distinct : (names texts : List (List ℕ)) → all_distinct same_text names ≡ true → all_distinct same_text texts ≡ true
    → all_distinct same_text (names ++ new_names names texts) ≡ true
names_distinct names texts f g =
    distinct-append same_text names (new_names names texts) f
    (distinct-filter same_text (λ text. not (list_any (same_text text) names)) texts g)
    (apart_back same_text same_back names (new_names names texts) (filter_passes (λ text. not (list_any (same_text text) names)) texts))

pub length-new : (names texts : List (List ℕ)) → length (new_names names texts) ≤ length texts
length-new names texts = length-filter_le (λ text. not (list_any (same_text text) names)) texts

-- the same of the strings of a file
pub string_said : (names : List (List ℕ)) (file : List ℕ) (i : ℕ) → i < count_at file string_ids
    → slice_get (names ++ new_names names (texts_of file)) (get_or (name_numbers names file) i (name_no 0)).0 ≡ Some (string_units file i)
string_said names file i lt =
    let texts = texts_of file in
    let long : i < length texts = omega (arith, length-listed (string_units file) 0 (count_at file string_ids)) in
    let place : 0 + i ≡ i = omega arith in
    let text : get_or texts i [] ≡ string_units file (0 + i) = get_or-listed (string_units file) 0 (count_at file string_ids) i [] lt in
    name_said names texts i long ∙ ap (λ (t : List ℕ). Some t) (text ∙ ap (string_units file) place)
