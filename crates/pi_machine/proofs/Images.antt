-- The bytes of an image grow by what is made and first touched.
use Rattle.std.proofs.Common.{◌≡◌, ℕ, zero, suc, ◌+◌, List, [], ◌∷◌, ◌++◌, sum_by, slice_get, slice_set, Option, Some, None, Bool, true, false, if◌then◌else◌, refl, sym, ◌∙◌, ap, add-zero, add_assoc}
use Rattle.std.proofs.lemmas.List.Sums.{sum_by-append, sum_by-cons}
use Rattle.std.specs.List.{list_any}
use Rattle.pi_model.specs.Program.{Program}
use Rattle.pi_model.specs.Sizes.{object_bytes}
use Rattle.pi_model.specs.Values.{Value, Object, Instance, Array, Text}
use Rattle.pi_machine.proofs.Truths.{some_same}
use Rattle.pi_machine.specs.State.{State, Thing, Made, Touched}
use Rattle.pi_machine.specs.Deeds.{Deed, Make, Touch, SetField, SetItem, do_deed, do_all, is_touched, with_field, with_item, in_thing, put_changed}
use Rattle.pi_machine.specs.Images.{bytes_for, image_bytes, added_bytes, all_added, ImageBytesGrow}
use Rattle.pi_machine.proofs.Changes.{length_set}

-- a change of a thing that keeps its bytes keeps the sum
set_same : (g : Thing → ℕ) (xs : List Thing) (i : ℕ) (x y : Thing) → slice_get xs i ≡ Some x → g y ≡ g x → sum_by g (slice_set xs i y) ≡ sum_by g xs
set_same g [] i x y e h = refl
set_same g (z ∷ xs) zero x y e h =
    let same : z ≡ x = some_same z x e in
    sum_by-cons g y xs ∙ (ap (λ n. n + sum_by g xs) (h ∙ sym (ap g same)) ∙ sym (sum_by-cons g z xs))
set_same g (z ∷ xs) (suc i) x y e h =
    sum_by-cons g z (slice_set xs i y) ∙ (ap (λ n. g z + n) (set_same g xs i x y e h) ∙ sym (sum_by-cons g z xs))

changed_same : (g : Thing → ℕ) (change : Thing → Thing) → ((x : Thing) → g (change x) ≡ g x) → (i : ℕ) (xs : List Thing) (x : Option Thing)
    → slice_get xs i ≡ x → sum_by g (put_changed change i xs x) ≡ sum_by g xs
changed_same g change keeps i xs None e = refl
changed_same g change keeps i xs (Some x) e = set_same g xs i x (change x) e (keeps x)

module _ (p : Program) (file : ℕ) where
  field_bytes : (i : ℕ) (v : Value) (o : Object) → object_bytes p (with_field i v o) ≡ object_bytes p o
  field_bytes i v (Instance c fields) = refl
  field_bytes i v (Array ty items) = refl
  field_bytes i v (Text units) = refl

  item_bytes : (i : ℕ) (v : Value) (o : Object) → object_bytes p (with_item i v o) ≡ object_bytes p o
  item_bytes i v (Instance c fields) = refl
  item_bytes i v (Array ty items) = rw (length_set items i v) refl
  item_bytes i v (Text units) = refl

  kept_bytes : (change : Object → Object) → ((o : Object) → object_bytes p (change o) ≡ object_bytes p o)
      → (x : Thing) → bytes_for p file (in_thing change x) ≡ bytes_for p file x
  kept_bytes change keeps (Made (Some other) o) = rw (keeps o) refl
  kept_bytes change keeps (Made None o) = refl
  kept_bytes change keeps (Touched (Some other) n) = refl
  kept_bytes change keeps (Touched None n) = refl

  push_bytes : (things : List Thing) (x : Thing) → sum_by (bytes_for p file) (things ++ x ∷ []) ≡ sum_by (bytes_for p file) things + bytes_for p file x
  push_bytes things x =
      sum_by-append (bytes_for p file) things (x ∷ []) ∙ ap (λ n. sum_by (bytes_for p file) things + n) (sum_by-cons (bytes_for p file) x [] ∙ add-zero (bytes_for p file x))

  touch_bytes : (b : Bool) (things : List Thing) (x : Thing)
      → sum_by (bytes_for p file) (if b then things else things ++ x ∷ []) ≡ sum_by (bytes_for p file) things + (if b then 0 else bytes_for p file x)
  touch_bytes true things x = sym (add-zero _)
  touch_bytes false things x = push_bytes things x

  deed_bytes : (d : Deed) (s : State) → image_bytes p file (do_deed d s) ≡ image_bytes p file s + added_bytes p file s d
  deed_bytes (Make o) s = push_bytes s.things (Made s.file o)
  deed_bytes (Touch n) s = touch_bytes (list_any (is_touched n) s.things) s.things (Touched s.file n)
  deed_bytes (SetField n i v) s =
      changed_same (bytes_for p file) (in_thing (with_field i v)) (kept_bytes (with_field i v) (field_bytes i v)) n s.things (slice_get s.things n) refl ∙ sym (add-zero _)
  deed_bytes (SetItem n i v) s =
      changed_same (bytes_for p file) (in_thing (with_item i v)) (kept_bytes (with_item i v) (item_bytes i v)) n s.things (slice_get s.things n) refl ∙ sym (add-zero _)
  deed_bytes _ s = sym (add-zero _)

  all_bytes : (ds : List Deed) (s : State) → image_bytes p file (do_all ds s) ≡ image_bytes p file s + all_added p file ds s
  all_bytes [] s = sym (add-zero _)
  all_bytes (d ∷ ds) s =
      all_bytes ds (do_deed d s) ∙ (ap (λ n. n + all_added p file ds (do_deed d s)) (deed_bytes d s)
      ∙ add_assoc (image_bytes p file s) (added_bytes p file s d) (all_added p file ds (do_deed d s)))

pub image_bytes_grow : ImageBytesGrow
image_bytes_grow = λ p file deeds s. all_bytes p file deeds s
