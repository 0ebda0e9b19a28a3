-- The start of a lazy run of a small file, and what the machine finds in its program.
use Rattle.std.proofs.Common.{◌≡◌, ℕ, zero, suc, ◌*◌, Bool, true, false, List, [], ◌∷◌, ◌++◌, length, map, Option, Some, None, refl, arith, ◌∙◌, ap, subst, zero-add}
use Rattle.std.proofs.lemmas.List.{append-nil}
use Rattle.std.specs.Prelude.{◌==◌, ◌&&◌, drop, option_map, option_and_then, slice_get, replicate, flat_map, position, slice_index, unwrap_or, codes, if◌then◌else◌}
use Rattle.std.specs.List.{list_all, list_any}
use Rattle.pi_model.specs.declared.describe.ClassDesc.{ClassDesc}
use Rattle.pi_model.specs.declared.describe.FieldDesc.{FieldDesc}
use Rattle.pi_model.specs.declared.reason.ClassState.TheVariants.{Fresh, Done}
use Rattle.pi_model.specs.Flags.{is_static}
use Rattle.pi_model.specs.Program.{same_name, method_number}
use Rattle.pi_model.specs.Values.{Word}
use Rattle.pi_model.specs.Sizes.{array_bytes, width_of}
use Rattle.pi_model.specs.Texts.{same_text, is_named, name_of, units_of}
use Rattle.pi_model.specs.Fields.{first_value}
use Rattle.pi_model.specs.Known.{descriptor_of}
use Rattle.pi_format.specs.Core.{core_names, int_name, object_name, out_name}
use Rattle.pi_model.specs.Distinct.{all_distinct}
use Rattle.pi_duty.specs.Small.{field_fits, has_no_value, has_text}
use Rattle.pi_duty.specs.Shape.{small_chain, Brought}
use Rattle.pi_model.specs.declared.numbers.NameNo.{NameNo}
use Rattle.pi_top.proofs.Lookups.{ClassIs}
use Rattle.pi_machine.specs.Start.{first_status, first_values, argument_bytes, is_main, main_in, main_of}
use Rattle.pi_machine.proofs.Truths.{both, neither, same_of, same_self, some_same}
use Rattle.pi_top.proofs.Roles.{same_name-is}
use Rattle.pi_top.proofs.Words.{words_of}

-- an array without elements has a header alone
empty_array : (w : ℕ) → array_bytes w 0 ≡ 16
empty_array w = let z : w * 0 ≡ 0 = omega arith in rw z refl

module _ (new : Brought) (d : ClassDesc) where
  -- without arguments there are sixteen bytes
  pub bytes_at_start : argument_bytes (small_chain new d) [] ≡ 16
  bytes_at_start = zero-add _ ∙ empty_array (width_of (slice_index (units_of (small_chain new d) (unwrap_or (name_of (small_chain new d) (codes "[Ljava/lang/String;")) 0)) 1))

  first_zero : (f : FieldDesc) → field_fits f ≡ true → first_value (small_chain new d) f ≡ Word 0
  unfolding core_names
  first_zero f e =
      let h : (same_name f.ty int_name ≡ true) × ((is_static f.flags && has_no_value f) ≡ true) = both _ _ e in
      let i : f.ty ≡ int_name = same_name-is _ _ h.0 in
      rw i refl

  first_zeros : (fields : List FieldDesc) → list_all field_fits fields ≡ true → map (first_value (small_chain new d)) fields ≡ words_of (replicate (length fields) 0)
  first_zeros [] e = refl
  first_zeros (f ∷ fs) e =
      let h : (field_fits f ≡ true) × (list_all field_fits fs ≡ true) = both _ _ e in
      let a : first_value (small_chain new d) f ≡ Word 0 = first_zero f h.0 in
      let b : map (first_value (small_chain new d)) fs ≡ words_of (replicate (length fs) 0) = first_zeros fs h.1 in
      rw (a, b) refl

  pub statics_at_start : list_all field_fits d.fields ≡ true → flat_map (first_values (small_chain new d)) (small_chain new d).classes ≡ words_of (replicate (length d.fields) 0)
  statics_at_start e = append-nil (map (first_value (small_chain new d)) d.fields) ∙ first_zeros d.fields e

  pub statuses_at_start : d.file.0 ≡ 1 → map (first_status (small_chain new d)) (small_chain new d).classes ≡ Done ∷ Done ∷ Fresh ∷ []
  unfolding core_names descriptor_of
  statuses_at_start e = rw e refl

same_text-refl : (a : List ℕ) → same_text a a ≡ true
same_text-refl [] = refl
same_text-refl (x ∷ xs) = rw (same_self x) (same_text-refl xs)

same_text-is : (a b : List ℕ) → same_text a b ≡ true → a ≡ b
same_text-is [] [] e = refl
same_text-is [] (y ∷ ys) e = cc
same_text-is (x ∷ xs) [] e = cc
same_text-is (x ∷ xs) (y ∷ ys) e =
    let h : ((x == y) ≡ true) × (same_text xs ys ≡ true) = both _ _ e in
    let a : x ≡ y = same_of x y h.0 in
    let b : xs ≡ ys = same_text-is xs ys h.1 in
    cc

-- of a list without equal elements the first is like no other
if_false : (a b : Bool) → (if a then false else b) ≡ true → (a ≡ false) × (b ≡ true)
if_false true b e = cc
if_false false b e = (refl, e)

any_none : {A : Type 0} (test : A → Bool) (xs : List A) (i : ℕ) (y : A) → list_any test xs ≡ false → slice_get xs i ≡ Some y → test y ≡ false
any_none test [] i y e g = cc
any_none test (x ∷ xs) zero y e g = subst (λ z. test z ≡ false) (some_same x y g) (neither (test x) (list_any test xs) e).0
any_none test (x ∷ xs) (suc i) y e g = any_none test xs i y (neither (test x) (list_any test xs) e).1 g

-- a place in a list behind its first two elements
module _ (a b : List ℕ) (more : List (List ℕ)) (distinct : all_distinct same_text (a ∷ b ∷ more) ≡ true) where
  first_apart : (k : ℕ) (text : List ℕ) → slice_get (a ∷ b ∷ more) (suc k) ≡ Some text → same_text a text ≡ false
  first_apart k text g = any_none (same_text a) (b ∷ more) k text (if_false (list_any (same_text a) (b ∷ more)) (all_distinct same_text (b ∷ more)) distinct).0 g

  second_apart : (k : ℕ) (text : List ℕ) → slice_get (a ∷ b ∷ more) (suc (suc k)) ≡ Some text → same_text b text ≡ false
  second_apart k text g =
      any_none (same_text b) more k text
      (if_false (list_any (same_text b) more) (all_distinct same_text more)
      (if_false (list_any (same_text a) (b ∷ more)) (all_distinct same_text (b ∷ more)) distinct).1).0 g

has_text_of : (names : List (List ℕ)) (n : NameNo) (text : List ℕ) (o : Option (List ℕ)) → slice_get names n.0 ≡ o → has_text names n text ≡ true → slice_get names n.0 ≡ Some text
has_text_of names n text None is e = let h : false ≡ true = rw is at e in cc
has_text_of names n text (Some units) is e =
    let h : same_text units text ≡ true = rw is at e in
    is ∙ ap Some (same_text-is units text h)

module _ (new : Brought) (d : ClassDesc) (text : List ℕ) (is : ClassIs d) (distinct : all_distinct same_text (core_names ++ new.names) ≡ true)
    (named : has_text (core_names ++ new.names) d.name text ≡ true) where
  there : slice_get (core_names ++ new.names) d.name.0 ≡ Some text
  there = has_text_of (core_names ++ new.names) d.name text (slice_get (core_names ++ new.names) d.name.0) refl named

  named_apart : (k : ℕ) → (0 == k) ≡ false → (1 == k) ≡ false → slice_get (core_names ++ new.names) k ≡ Some text
      → (same_text (codes "Ljava/lang/Object;") text ≡ false) × (same_text (codes "Lpi/Out;") text ≡ false)
  unfolding core_names
  named_apart zero a b g = cc
  named_apart (suc zero) a b g = cc
  named_apart (suc (suc k)) a b g = (
    first_apart (codes "Ljava/lang/Object;") (codes "Lpi/Out;") (drop 2 (core_names ++ new.names)) distinct (suc k) text g,
    second_apart (codes "Ljava/lang/Object;") (codes "Lpi/Out;") (drop 2 (core_names ++ new.names)) distinct k text g,
  )

  named_object : is_named (small_chain new d) object_name text ≡ false
  unfolding core_names
  named_object = (named_apart d.name.0 is.no_object is.no_out there).0

  named_out : is_named (small_chain new d) out_name text ≡ false
  unfolding core_names
  named_out = (named_apart d.name.0 is.no_object is.no_out there).1

  named_own : is_named (small_chain new d) d.name text ≡ true
  named_own = rw there (same_text-refl text)

  finds_main_class : position (λ (x : ClassDesc). is_named (small_chain new d) x.name text) (small_chain new d).classes ≡ Some 2
  finds_main_class = rw (named_object, named_out, named_own) refl

  pub finds_main : (place : ℕ) → position (is_main (small_chain new d)) d.methods ≡ Some place → main_of (small_chain new d) text ≡ Some (method_number (small_chain new d) 2 place)
  finds_main place e = ap (option_and_then (main_in (small_chain new d))) finds_main_class ∙ ap (option_map (method_number (small_chain new d) 2)) e
