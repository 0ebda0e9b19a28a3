-- The states in which runs start are sound.
use Rattle.std.proofs.Common.{◌≡◌, ℕ, suc, ◌+◌, ◌^◌, ◌<◌, ◌==◌, List, [], ◌∷◌, ◌++◌, length, map, flat_map, sum_by, slice_get, Some, None, is_some, Bool, true, false, if◌then◌else◌, refl, sym, ◌∙◌, ap, subst, arith, append_assoc, length-append}
use Rattle.std.specs.Prelude.{unwrap_or, codes}
use Rattle.std.proofs.lemmas.List.{length-map}
use Rattle.std.proofs.lemmas.List.Sums.{sum_by-cons}
use Rattle.pi_model.specs.declared.describe.ClassDesc.{ClassDesc}
use Rattle.pi_model.specs.declared.describe.FieldDesc.{FieldDesc}
use Rattle.pi_model.specs.Program.{Program, field_count}
use Rattle.pi_model.specs.Texts.{name_of}
use Rattle.pi_model.specs.Fields.{first_value}
use Rattle.pi_model.specs.Sizes.{letter_of}
use Rattle.pi_model.specs.Values.{Value, Word, Long, Array, Text}
use Rattle.pi_machine.specs.State.{State, Thing, Made}
use Rattle.pi_machine.specs.Objects.{made_of}
use Rattle.pi_machine.specs.Start.{first_values, first_status, references_from, first_state, with_main}
use Rattle.pi_machine.specs.Sound.{EachOf, IsSoundValue, IsSoundText, IsSoundThing, IsSound, StartsAreSound}
use Rattle.pi_machine.proofs.Each.{each_joined, each_map, each_mono}
use Rattle.pi_machine.proofs.SoundThings.{Grows, grows_more, thing_grows, with_things}

-- the first values
first_sound : (b : Bool) → IsSoundValue [] (if b then Long 0 else Word 0)
first_sound true = omega arith
first_sound false = omega arith

statics_sound : (p : Program) (classes : List ClassDesc) → EachOf (IsSoundValue []) (flat_map (first_values p) classes)
statics_sound p [] = tt
statics_sound p (d ∷ classes) =
    each_joined (IsSoundValue []) (first_values p d) (flat_map (first_values p) classes)
    (each_map (IsSoundValue []) (first_value p) (λ (f : FieldDesc). first_sound (letter_of p f == 74)) d.fields) (statics_sound p classes)

statics_count : (p : Program) (classes : List ClassDesc) → length (flat_map (first_values p) classes) ≡ sum_by field_count classes
statics_count p [] = refl
statics_count p (d ∷ classes) =
    length-append (first_values p d) (flat_map (first_values p) classes)
    ∙ (ap (λ n. n + length (flat_map (first_values p) classes)) (length-map d.fields (first_value p))
    ∙ (ap (λ n. field_count d + n) (statics_count p classes) ∙ sym (sum_by-cons field_count d classes)))

first_is_sound : (p : Program) → IsSound p (first_state p)
first_is_sound p = record {
  things = tt;
  statics = statics_sound p p.classes;
  stack = tt;
  held = tt;
  pending = tt;
  args = tt;
  all_statics = statics_count p p.classes;
  all_statuses = length-map p.classes (first_status p);
}

-- the arguments
abbrev texts_of : List (List ℕ) → List Thing
texts_of args = map (λ o. Made None o) (map (λ units. Text units) args)

stands_at : (front back : List Thing) (x : Thing) → slice_get (front ++ x ∷ back) (length front) ≡ Some x
stands_at [] back x = refl
stands_at (y ∷ front) back x = stands_at front back x

references_there : (args : List (List ℕ)) (front : List Thing) (place : ℕ) → place ≡ length front
    → EachOf (IsSoundValue (front ++ texts_of args)) (references_from place args)
references_there [] front place e = tt
references_there (t ∷ args) front place e =
    let x : Thing = Made None (Text t) in
    let here : is_some (made_of (slice_get (front ++ x ∷ texts_of args) place)) ≡ true =
    subst (λ n. is_some (made_of (slice_get (front ++ x ∷ texts_of args) n)) ≡ true) (sym e) (ap (λ o. is_some (made_of o)) (stands_at front (texts_of args) x)) in
    let long : length (front ++ x ∷ []) ≡ length front + 1 = length-append front (x ∷ []) in
    let rest : EachOf (IsSoundValue ((front ++ x ∷ []) ++ texts_of args)) (references_from (place + 1) args) =
    references_there args (front ++ x ∷ []) (place + 1) (omega (arith, e, long)) in
    (here, subst (λ xs. EachOf (IsSoundValue xs) (references_from (place + 1) args)) (append_assoc front (x ∷ []) (texts_of args)) rest)

references_count : (args : List (List ℕ)) (place : ℕ) → length (references_from place args) ≡ length args
references_count [] place = refl
references_count (t ∷ args) place = ap (λ n. suc n) (references_count args (place + 1))

texts_sound : (p : Program) (things : List Thing) (args : List (List ℕ)) → EachOf IsSoundText args → EachOf (IsSoundThing p things) (texts_of args)
texts_sound p things [] x = tt
texts_sound p things (t ∷ args) x = (x.0, texts_sound p things args x.1)

main_sound : (p : Program) (main : ℕ) (args : List (List ℕ)) (s : State) → IsSound p s → EachOf IsSoundText args → length args < 2 ^ 31 → IsSound p (with_main p main args s)
main_sound p main args s h x few =
    let refs : List Value = references_from (length s.things + 1) args in
    let array : Thing = Made None (Array (unwrap_or (name_of p (codes "[Ljava/lang/String;")) 0) refs) in
    let after : List Thing = s.things ++ array ∷ texts_of args in
    let g : Grows s.things after = grows_more s.things (array ∷ texts_of args) in
    let long : length (s.things ++ array ∷ []) ≡ length s.things + 1 = length-append s.things (array ∷ []) in
    let there : EachOf (IsSoundValue ((s.things ++ array ∷ []) ++ texts_of args)) refs =
    references_there args (s.things ++ array ∷ []) (length s.things + 1) (omega (arith, long)) in
    let items : EachOf (IsSoundValue after) refs =
    subst (λ xs. EachOf (IsSoundValue xs) refs) (append_assoc s.things (array ∷ []) (texts_of args)) there in
    let count : length refs ≡ length args = references_count args (length s.things + 1) in
    let all : EachOf (IsSoundThing p after) after =
    each_joined (IsSoundThing p after) s.things (array ∷ texts_of args)
    (each_mono (IsSoundThing p s.things) (IsSoundThing p after) (thing_grows g p) s.things h.things)
    ((omega (arith, count, few), items), texts_sound p after args x) in
    let k : IsSound p (record s { things = after }) = with_things p s after h g all in
    record {
      things = k.things;
      statics = k.statics;
      stack = k.stack;
      held = k.held;
      pending = k.pending;
      args = ap (λ o. is_some (made_of o)) (stands_at s.things (texts_of args) array);
      all_statics = k.all_statics;
      all_statuses = k.all_statuses;
    }

pub starts_are_sound : StartsAreSound
starts_are_sound = record { first = first_is_sound; main = main_sound }
