-- The values of fields up to the last one that is set, one field after another.
use Rattle.std.proofs.Common.{◌≡◌, ℕ, ◌+◌, ◌<◌, Bool, true, false, ◌||◌, List, [], ◌∷◌, ◌++◌, length, map, get_or, take, refl, ap, ◌∙◌, add-one}
use Rattle.std.specs.List.{list_any}
use Rattle.std.proofs.Math.Seq.{take-suc}
use Rattle.pi_dextables.specs.declared.tables.Value.{Value}
use Rattle.pi_dexrows.specs.declared.fields.FieldPart.{FieldPart}
use Rattle.pi_dexrows.specs.Parts.{set_values}

abbrev any_set : List FieldPart → Bool
any_set fs = list_any (λ (f : FieldPart). f.is_set) fs

or_true : (b : Bool) → (b || true) ≡ true
or_true true = refl
or_true false = refl

any_with : (fs : List FieldPart) (f : FieldPart) → f.is_set ≡ true → any_set (fs ++ f ∷ []) ≡ true
any_with [] f set = rw set refl
any_with (g ∷ fs) f set = rw (any_with fs f set) (or_true g.is_set)

any_without : (fs : List FieldPart) (f : FieldPart) → f.is_set ≡ false → any_set (fs ++ f ∷ []) ≡ any_set fs
any_without [] f unset = rw unset refl
any_without (g ∷ fs) f unset = ap (λ (b : Bool). g.is_set || b) (any_without fs f unset)

all_set : (fs : List FieldPart) (f : FieldPart) → f.is_set ≡ true → set_values (fs ++ f ∷ []) ≡ map (λ (g : FieldPart). g.value) (fs ++ f ∷ [])
all_set [] f set = rw set refl
all_set (g ∷ fs) f set = rw (any_with (g ∷ fs) f set) (ap (λ (vs : List Value). g.value ∷ vs) (all_set fs f set))

none_more : (fs : List FieldPart) (f : FieldPart) → f.is_set ≡ false → set_values (fs ++ f ∷ []) ≡ set_values fs
none_more [] f unset = rw unset refl
none_more (g ∷ fs) f unset = rw (any_without (g ∷ fs) f unset, none_more fs f unset) refl

one_longer : (fs : List FieldPart) (i : ℕ) (d : FieldPart) → i < length fs → take (i + 1) fs ≡ take i fs ++ get_or fs i d ∷ []
one_longer fs i d lt = rw (add-one, take-suc fs i d) refl

pub set_here : (fs : List FieldPart) (i : ℕ) (d : FieldPart) → i < length fs → (get_or fs i d).is_set ≡ true
    → set_values (take (i + 1) fs) ≡ map (λ (g : FieldPart). g.value) (take (i + 1) fs)
set_here fs i d lt set = rw (one_longer fs i d lt) (all_set (take i fs) (get_or fs i d) set)

pub unset_here : (fs : List FieldPart) (i count : ℕ) (d : FieldPart) → i < length fs → (get_or fs i d).is_set ≡ false
    → set_values (take i fs) ≡ map (λ (g : FieldPart). g.value) (take count fs)
    → set_values (take (i + 1) fs) ≡ map (λ (g : FieldPart). g.value) (take count fs)
unset_here fs i count d lt unset before = rw (one_longer fs i d lt) (none_more (take i fs) (get_or fs i d) unset ∙ before)
