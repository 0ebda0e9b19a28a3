-- Reading the machine backwards: a thing among the others, and a reference operand.
use Rattle.std.proofs.Common.{◌≡◌, ℕ, zero, suc, List, [], ◌∷◌, slice_get, Option, Some, None, Bool, true, false, if◌then◌else◌, refl, ◌∙◌, ap}
use Rattle.pi_model.specs.Values.{Ref, Value, Word, Low, High, Long, At}
use Rattle.pi_machine.proofs.Truths.{some_same}
use Rattle.pi_machine.specs.State.{State, Thing}
use Rattle.pi_machine.specs.Deeds.{Deed, put_changed, changed_at}
use Rattle.pi_machine.specs.Objects.{names_thing}
use Rattle.pi_machine.specs.Operands.{Deeds, with_ref}
use Rattle.pi_machine.specs.Reading.{StandsBetween, ThingsStandBetween, GoesOnWith, ReferencesGoOnAlike}

-- a change further on
changed_behind : (change : Thing → Thing) (n : ℕ) (z : Thing) (xs : List Thing) → changed_at change (suc n) (z ∷ xs) ≡ z ∷ changed_at change n xs
changed_behind change n z xs = by_found (slice_get xs n)
  where
    by_found : (o : Option Thing) → put_changed change (suc n) (z ∷ xs) o ≡ z ∷ put_changed change n xs o
    by_found None = refl
    by_found (Some x) = refl

pub things_stand_between : ThingsStandBetween
things_stand_between [] n x e = cc
things_stand_between (z ∷ xs) zero x e =
    let same : z ≡ x = some_same z x e in
    record { front = []; back = xs; before = refl; is = ap (λ y. y ∷ xs) same; changed = λ change. ap (λ y. change y ∷ xs) same }
things_stand_between (z ∷ xs) (suc n) x e =
    let h : StandsBetween xs n x = things_stand_between xs n x e in
    record {
      front = z ∷ h.front;
      back = h.back;
      before = ap (λ k. suc k) h.before;
      is = ap (λ ys. z ∷ ys) h.is;
      changed = λ change. changed_behind change n z xs ∙ ap (λ ys. z ∷ ys) (h.changed change);
    }

pub references_go_on_alike : ReferencesGoOnAlike
references_go_on_alike = λ s v go deeds e. by_value s v go deeds e
  where
    named : (s : State) (r : Ref) (go : Value → Deeds) (deeds : List Deed) (b : Bool) → names_thing s r ≡ b
        → (if b then go (At r) else None) ≡ Some deeds → GoesOnWith s (Some (At r)) go deeds
    named s r go deeds true is e = record { value = At r; is = refl; reference = is; goes = e }
    named s r go deeds false is e = cc

    by_value : (s : State) (v : Option Value) (go : Value → Deeds) (deeds : List Deed) → with_ref s v (go (Word 0)) (λ r. go (At r)) ≡ Some deeds → GoesOnWith s v go deeds
    by_value s None go deeds e = cc
    by_value s (Some (Word zero)) go deeds e = record { value = Word 0; is = refl; reference = refl; goes = e }
    by_value s (Some (Word (suc n))) go deeds e = cc
    by_value s (Some (Low n)) go deeds e = cc
    by_value s (Some (High n)) go deeds e = cc
    by_value s (Some (Long n)) go deeds e = cc
    by_value s (Some (At r)) go deeds e = named s r go deeds (names_thing s r) refl e
