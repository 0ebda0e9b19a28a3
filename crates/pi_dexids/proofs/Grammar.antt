-- Names and descriptors by their first unit and what is known of the rest.
use Rattle.std.proofs.Common.{◌≡◌, ◌≢◌, ℕ, zero, suc, ◌+◌, ◌<◌, ◌≤◌, List, [], ◌∷◌, length, Option, Some, None, Bool, true, false, refl, sym, ap, ◌∙◌, arith}
use Rattle.std.specs.Prelude.{◌==◌, ◌&&◌, ◌||◌, not, nat_lt, nat_le, codes, is_some, if◌then◌else◌}
use Rattle.std.proofs.lemmas.Bool.Decides.{nat_tests}
use Rattle.pi_model.specs.Texts.{same_text}
use Rattle.pi_format.specs.Rules.Descriptors.{is_mark, is_primitive, is_simple, is_class_name, is_array_of, is_descriptor}
use Rattle.pi_dexids.specs.Facts.{first_unit}
use Rattle.pi_dexids.specs.Tails.{deeper, depth_of}

-- the rest of a name
pub last_of_name : (begun : Bool) (u : ℕ) (us : List ℕ) → length us ≡ 0 → is_class_name begun (u ∷ us) ≡ (begun && (u == 59))
unfolding is_class_name
last_of_name begun u [] e = refl
last_of_name begun u (v ∷ us) e = absurd (omega arith)

more_of_name : (begun : Bool) (u : ℕ) (us : List ℕ) → length us ≢ 0
    → is_class_name begun (u ∷ us) ≡ (if u == 47 then begun && is_class_name false us else not (is_mark u) && is_class_name true us)
unfolding is_class_name
more_of_name begun u [] e = absurd (e refl)
more_of_name begun u (v ∷ us) e = refl

-- a `/` in a name, and another unit
pub slash_in_name : (begun : Bool) (u : ℕ) (us : List ℕ) → length us ≢ 0 → u ≡ 47 → is_class_name begun (u ∷ us) ≡ (begun && is_class_name false us)
slash_in_name begun u us some e =
    let is : (u == 47) ≡ true = grind (arith, nat_tests) in
    more_of_name begun u us some ∙ ap (λ (b : Bool). if b then begun && is_class_name false us else not (is_mark u) && is_class_name true us) is

pub unit_in_name : (begun : Bool) (u : ℕ) (us : List ℕ) → length us ≢ 0 → u ≢ 47 → is_class_name begun (u ∷ us) ≡ (not (is_mark u) && is_class_name true us)
unit_in_name begun u us some e =
    let is : (u == 47) ≡ false = grind (arith, nat_tests) in
    more_of_name begun u us some ∙ ap (λ (b : Bool). if b then begun && is_class_name false us else not (is_mark u) && is_class_name true us) is

-- a name that begins with a mark is none
mark_first : (u : ℕ) (us : List ℕ) (b : Bool) → (u == 47) ≡ b → is_mark u ≡ true → length us ≢ 0 → is_class_name false (u ∷ us) ≡ false
mark_first u us true e m some = slash_in_name false u us some (grind (arith, nat_tests))
mark_first u us false e m some = unit_in_name false u us some (λ s. grind (arith, nat_tests)) ∙ ap (λ (b : Bool). not b && is_class_name true us) m

pub mark_before_name : (u : ℕ) (us : List ℕ) → is_mark u ≡ true → is_class_name false (u ∷ us) ≡ false
mark_before_name u [] m = last_of_name false u [] refl
mark_before_name u (v ∷ us) m = mark_first u (v ∷ us) (u == 47) refl m (λ s. absurd (omega arith))

no_slash : (u : ℕ) → is_mark u ≡ false → u ≢ 47
no_slash u m = λ s. grind (arith, nat_tests)

pub name_begins : (u : ℕ) (us : List ℕ) → length us ≢ 0 → is_mark u ≡ false → is_class_name false (u ∷ us) ≡ is_class_name true us
name_begins u us some m = unit_in_name false u us some (no_slash u m) ∙ ap (λ (b : Bool). not b && is_class_name true us) m

pub no_name : (u : ℕ) (us : List ℕ) → length us ≡ 0 → is_class_name false (u ∷ us) ≡ false
no_name u us none = last_of_name false u us none

pub one_simple : (u : ℕ) (us : List ℕ) → length us ≡ 0 → is_simple (u ∷ us) ≡ is_primitive u
one_simple u [] e = refl
one_simple u (v ∷ us) e = absurd (omega arith)

pub more_simple : (u : ℕ) (us : List ℕ) → length us ≢ 0 → is_simple (u ∷ us) ≡ ((u == 76) && is_class_name false us)
more_simple u [] e = absurd (e refl)
more_simple u (v ∷ us) e = refl

-- a descriptor of an array is a primitive or a class behind so many `[`
abbrev within : ℕ → Option ℕ → Bool
within n None = false
within n (Some d) = nat_le d n

simple_is_no_array : (us : List ℕ) → is_simple (91 ∷ us) ≡ false
simple_is_no_array [] = refl
simple_is_no_array (u ∷ us) = refl

within_deeper : (n : ℕ) (o : Option ℕ) → n < 255 → within (suc n) (deeper o) ≡ within n o
within_deeper n None lt = refl
within_deeper n (Some d) lt = by_test (nat_lt d 255) refl
  where
    by_test : (b : Bool) → nat_lt d 255 ≡ b → within (suc n) (if b then Some (d + 1) else None) ≡ within n (Some d)
    by_test true e = grind (arith, nat_tests)
    by_test false e = grind (arith, nat_tests)

within_simple : (n : ℕ) (b : Bool) → within n (if b then Some 0 else None) ≡ b
within_simple n true = grind (arith, nat_tests)
within_simple n false = refl

within_zero : (o : Option ℕ) → within zero (deeper o) ≡ false
within_zero None = refl
within_zero (Some d) = by_test (nat_lt d 255)
  where
    by_test : (b : Bool) → within zero (if b then Some (d + 1) else None) ≡ false
    by_test true = grind (arith, nat_tests)
    by_test false = refl

array_by : (n : ℕ) (us : List ℕ) → n ≤ 255 → is_array_of n us ≡ within n (depth_of us)
unfolding is_array_of
array_by n [] le = refl
array_by zero (u ∷ us) le = by_test (u == 91) refl
  where
    by_test : (b : Bool) → (u == 91) ≡ b → is_simple (u ∷ us) ≡ within zero (if b then deeper (depth_of us) else if is_simple (u ∷ us) then Some 0 else None)
    by_test true e =
        let is : u ≡ 91 = grind (arith, nat_tests) in
        ap (λ (v : ℕ). is_simple (v ∷ us)) is ∙ simple_is_no_array us ∙ sym (within_zero (depth_of us))
    by_test false e = sym (within_simple zero (is_simple (u ∷ us)))
array_by (suc n) (u ∷ us) le = by_test (u == 91) (array_by n us (omega arith))
  where
    by_test : (b : Bool) → is_array_of n us ≡ within n (depth_of us)
        → (if b then is_array_of n us else is_simple (u ∷ us)) ≡ within (suc n) (if b then deeper (depth_of us) else if is_simple (u ∷ us) then Some 0 else None)
    by_test true e = e ∙ sym (within_deeper n (depth_of us) (omega arith))
    by_test false e = sym (within_simple (suc n) (is_simple (u ∷ us)))

few_deep : (us : List ℕ) → within 255 (depth_of us) ≡ is_some (depth_of us)
few_deep [] = refl
few_deep (u ∷ us) = by_test (u == 91)
  where
    by_depth : (o : Option ℕ) → within 255 (deeper o) ≡ is_some (deeper o)
    by_depth None = refl
    by_depth (Some d) = by_lt (nat_lt d 255) refl
      where
        by_lt : (b : Bool) → nat_lt d 255 ≡ b → within 255 (if b then Some (d + 1) else None) ≡ is_some {T = ℕ} (if b then Some (d + 1) else None)
        by_lt true e = grind (arith, nat_tests)
        by_lt false e = refl

    by_simple : (b : Bool) → within 255 (if b then Some 0 else None) ≡ is_some {T = ℕ} (if b then Some 0 else None)
    by_simple true = refl
    by_simple false = refl

    by_test : (b : Bool) → within 255 (if b then deeper (depth_of us) else if is_simple (u ∷ us) then Some 0 else None)
        ≡ is_some {T = ℕ} (if b then deeper (depth_of us) else if is_simple (u ∷ us) then Some 0 else None)
    by_test true = by_depth (depth_of us)
    by_test false = by_simple (is_simple (u ∷ us))

void_by : (us : List ℕ) → same_text (codes "V") us ≡ ((length us == 1) && (first_unit us == 86))
void_by [] = refl
void_by (u ∷ []) = grind (arith, nat_tests)
void_by (u ∷ v ∷ us) = grind (arith, nat_tests)

pub descriptor_by : (us : List ℕ) → is_descriptor us ≡ (((length us == 1) && (first_unit us == 86)) || is_some (depth_of us))
descriptor_by us =
    ap (λ (b : Bool). b || is_array_of 255 us) (void_by us)
    ∙ ap (λ (b : Bool). ((length us == 1) && (first_unit us == 86)) || b) (array_by 255 us (omega arith) ∙ few_deep us)
