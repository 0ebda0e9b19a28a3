-- The values of static fields fit the bytes that they have.
use Rattle.std.proofs.Common.{ℕ, ◌^◌, ◌<◌, Bool, true, false, List, [], ◌∷◌, length, arith}
use Rattle.std.specs.Prelude.{All, if◌then◌else◌}
use Rattle.std.specs.List.{list_any}
use Rattle.std.proofs.lemmas.List.Elements.{All-nil, All-cons, All-head, All-tail, All-map}
use Rattle.pi_format.proofs.Every.{all_both}
use Rattle.pi_dextables.specs.Writable.{ValueFits}
use Rattle.pi_contents.specs.Contents.{InitContent, NoInit, WordInit, LongInit, TextInit, TypeInit, FieldContent}
use Rattle.pi_contents.specs.Asked.{has_init}
use Rattle.pi_classtables.specs.Numbers.{Pools}
use Rattle.pi_classtables.specs.Sized.{InitSized, FieldSized}
use Rattle.pi_classtables.specs.Values.{empty_value, word_value, value_of, set_fields, values_of}
use Rattle.pi_classlaws.proofs.HeldMembers.{InitHeld, FieldHeld}
use Rattle.pi_classlaws.proofs.InitValues.{empty_by, word_by}

-- each form of a value
empty_fits : (ty : List ℕ) → ValueFits (empty_value ty)
empty_fits ty =
    empty_by ValueFits ty
    (λ _. record { kind = omega arith; arg = omega arith; number = omega arith })
    (λ _. record { kind = omega arith; arg = omega arith; number = omega arith })
    (λ _. record { kind = omega arith; arg = omega arith; number = omega arith })
    (λ _. record { kind = omega arith; arg = omega arith; number = omega arith })
    (λ _. record { kind = omega arith; arg = omega arith; number = omega arith })
    (λ _. record { kind = omega arith; arg = omega arith; number = omega arith })
    (λ _. record { kind = omega arith; arg = omega arith; number = omega arith })

word_value_fits : (ty : List ℕ) (w : ℕ) → w < 2 ^ 32 → ValueFits (word_value ty w)
word_value_fits ty w lt =
    word_by ValueFits ty w
    (λ _ _. record { kind = omega arith; arg = omega arith; number = omega arith })
    (λ _ _. record { kind = omega arith; arg = omega arith; number = omega arith })
    (λ _ few. record { kind = omega arith; arg = omega arith; number = few })
    (λ _ few. record { kind = omega arith; arg = omega (arith, few); number = omega arith })
    (λ _. record { kind = omega arith; arg = omega arith; number = lt })

-- what holds of each field holds of those up to the last that is set
set_all : (P : FieldContent → Type 0) (fs : List FieldContent) → All P fs → All P (set_fields fs)
set_all P [] all = all
set_all P (f ∷ fs) all = by_set (list_any (λ (g : FieldContent). has_init g.init) (f ∷ fs)) (set_all P fs (All-tail P f fs all))
  where
    by_set : (b : Bool) → All P (set_fields fs) → All P (if b then f ∷ set_fields fs else [])
    by_set true rest = All-cons P f (set_fields fs) (All-head P f fs all) rest
    by_set false rest = All-nil P

-- where strings and types are few, their numbers fit
module _ (p : Pools) (few_strings : length p.strings < 2 ^ 32) (few_types : length p.types < 2 ^ 32) where
  init_value_fits : (ty : List ℕ) (init : InitContent) → InitSized init → InitHeld p init → ValueFits (value_of p ty init)
  unfolding value_of
  init_value_fits ty NoInit sized held = empty_fits ty
  init_value_fits ty (WordInit w) sized held = word_value_fits ty w sized
  init_value_fits ty (LongInit l) sized held = record { kind = omega arith; arg = omega arith; number = sized }
  init_value_fits ty (TextInit s) sized held = record { kind = omega arith; arg = omega arith; number = (let lt = held.number in omega (arith, lt)) }
  init_value_fits ty (TypeInit u) sized held = record { kind = omega arith; arg = omega arith; number = (let lt = held.number in omega (arith, lt)) }

  pub values_fit : (class : List ℕ) (fs : List FieldContent) → All FieldSized fs → All (FieldHeld p class) fs → All ValueFits (values_of p fs)
  values_fit class fs sized held =
      let Fits : FieldContent → Type 0 = λ (f : FieldContent). ValueFits (value_of p f.ty f.init) in
      let fit : All Fits fs = all_both FieldSized (FieldHeld p class) Fits fs (λ f s h. init_value_fits f.ty f.init s.init h.init) sized held in
      All-map ValueFits (λ (f : FieldContent). value_of p f.ty f.init) (set_fields fs) (set_all Fits fs fit)
