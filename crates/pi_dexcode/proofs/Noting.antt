-- Texts that are noted one after another are those of the whole file.
use Rattle.std.proofs.Common.{◌≡◌, ℕ, suc, ◌+◌, ◌-◌, ◌<◌, List, [], ◌∷◌, ◌++◌, length, Option, Some, None, Bool, true, false, refl, sym, ap, ◌∙◌, arith, append_assoc, length-append}
use Rattle.std.specs.Prelude.{position, nat_lt, cond}
use Rattle.std.specs.List.{list_any, position_or_len}
use Rattle.std.proofs.lemmas.Bool.Decides.{nat_tests}
use Rattle.pi_model.specs.declared.numbers.NameNo.{NameNo}
use Rattle.pi_model.specs.Texts.{same_text}
use Rattle.pi_format.specs.Core.{name_no}
use Rattle.pi_format.specs.Rules.Lowest.{tabulation}
use Rattle.pi_format.specs.Says.Names.{new_names, numbers_from}
use Rattle.pi_dexcode.specs.Noting.{noted_names, noted_numbers}

-- a text that is a name, and one that is none
pub noted_old : (names new : List (List ℕ)) (numbers : List NameNo) (text : List ℕ) (n : NameNo) → Some n.0 ≡ position (same_text text) names
    → (new ≡ noted_names names new text) × (numbers ++ n ∷ [] ≡ noted_numbers names new numbers text)
noted_old names new numbers text n e = (rw (sym e) refl, rw (sym e) refl)

pub noted_new : (names new : List (List ℕ)) (numbers : List NameNo) (text : List ℕ) → None ≡ position (same_text text) names
    → (new ++ text ∷ [] ≡ noted_names names new text) × (numbers ++ name_no (length names + length new) ∷ [] ≡ noted_numbers names new numbers text)
noted_new names new numbers text e = (rw (sym e) refl, rw (sym e) refl)

-- a place is found exactly where some element passes
later : (a b : ℕ) → nat_lt a b ≡ nat_lt (1 + a) (suc b)
later a b = grind (arith, nat_tests)

first_place : (b : ℕ) → true ≡ nat_lt 0 (suc b)
first_place b = grind (arith, nat_tests)

any_found : {A : Type 0} (p : A → Bool) (xs : List A) → list_any p xs ≡ nat_lt (position_or_len p xs) (length xs)
any_found p [] = refl
any_found p (x ∷ xs) = by_test (p x) refl (any_found p xs)
  where
    by_test : (b : Bool) → p x ≡ b → list_any p xs ≡ nat_lt (position_or_len p xs) (length xs)
        → list_any p (x ∷ xs) ≡ nat_lt (position_or_len p (x ∷ xs)) (length (x ∷ xs))
    by_test true e rest = rw e (first_place (length xs))
    by_test false e rest = rw e (rest ∙ later (position_or_len p xs) (length xs))

cond_none : {A : Type 0} (b : Bool) (x : A) → None ≡ cond b (Some x) None → b ≡ false
cond_none true x e = cc
cond_none false x e = refl

cond_some : {A : Type 0} (b : Bool) (x y : A) → Some y ≡ cond b (Some x) None → b ≡ true
cond_some true x y e = refl
cond_some false x y e = cc

not_found : (names : List (List ℕ)) (text : List ℕ) → None ≡ position (same_text text) names → list_any (same_text text) names ≡ false
not_found names text e = any_found (same_text text) names ∙ cond_none (nat_lt (position_or_len (same_text text) names) (length names)) (position_or_len (same_text text) names) e

found : (names : List (List ℕ)) (text : List ℕ) (n : ℕ) → Some n ≡ position (same_text text) names → list_any (same_text text) names ≡ true
found names text n e = any_found (same_text text) names ∙ cond_some (nat_lt (position_or_len (same_text text) names) (length names)) (position_or_len (same_text text) names) n e

-- the first of texts is noted, and the others follow
names_note : (names new : List (List ℕ)) (text : List ℕ) (texts : List (List ℕ))
    → noted_names names new text ++ new_names names texts ≡ new ++ new_names names (text ∷ texts)
names_note names new text texts = by_place (position (same_text text) names) refl
  where
    by_place : (p : Option ℕ) → p ≡ position (same_text text) names → noted_names names new text ++ new_names names texts ≡ new ++ new_names names (text ∷ texts)
    by_place (Some n) e = rw (sym e, found names text n e) refl
    by_place None e = rw (sym e, not_found names text e) (append_assoc new (text ∷ []) (new_names names texts))

numbers_note : (names new : List (List ℕ)) (numbers : List NameNo) (text : List ℕ) (texts : List (List ℕ))
    → noted_numbers names new numbers text ++ numbers_from names (length names + length (noted_names names new text)) texts
    ≡ numbers ++ numbers_from names (length names + length new) (text ∷ texts)
numbers_note names new numbers text texts = by_place (position (same_text text) names) refl
  where
    by_place : (p : Option ℕ) → p ≡ position (same_text text) names
        → noted_numbers names new numbers text ++ numbers_from names (length names + length (noted_names names new text)) texts
        ≡ numbers ++ numbers_from names (length names + length new) (text ∷ texts)
    by_place (Some n) e = rw (sym e) (append_assoc numbers (name_no n ∷ []) (numbers_from names (length names + length new) texts))
    by_place None e =
        let next : length names + length (new ++ text ∷ []) ≡ length names + length new + 1 = omega (arith, length-append new (text ∷ [])) in
        rw (sym e, next) (append_assoc numbers (name_no (length names + length new) ∷ []) (numbers_from names (length names + length new + 1) texts))

-- the numbers from one on
listed_more : {A : Type 0} (f : ℕ → A) (i n : ℕ) → i < n → tabulation f i (n - i) ≡ f i ∷ tabulation f (i + 1) (n - (i + 1))
listed_more f i n lt =
    let more : n - i ≡ suc (n - (i + 1)) = omega arith in
    rw more refl

pub names_go : (names new : List (List ℕ)) (f : ℕ → List ℕ) (i n : ℕ) → i < n
    → noted_names names new (f i) ++ new_names names (tabulation f (i + 1) (n - (i + 1))) ≡ new ++ new_names names (tabulation f i (n - i))
names_go names new f i n lt =
    names_note names new (f i) (tabulation f (i + 1) (n - (i + 1))) ∙ ap (λ texts. new ++ new_names names texts) (sym (listed_more f i n lt))

pub numbers_go : (names new : List (List ℕ)) (numbers : List NameNo) (f : ℕ → List ℕ) (i n : ℕ) → i < n
    → noted_numbers names new numbers (f i) ++ numbers_from names (length names + length (noted_names names new (f i))) (tabulation f (i + 1) (n - (i + 1)))
    ≡ numbers ++ numbers_from names (length names + length new) (tabulation f i (n - i))
numbers_go names new numbers f i n lt =
    numbers_note names new numbers (f i) (tabulation f (i + 1) (n - (i + 1)))
    ∙ ap (λ texts. numbers ++ numbers_from names (length names + length new) texts) (sym (listed_more f i n lt))
