-- Reading the machine backwards, as statements: what is known where a word of its rows has gone on.
use Rattle.std.specs.Prelude.{◌≡◌, ℕ, List, ◌∷◌, ◌++◌, length, slice_get, Option, Some, true}
use Rattle.pi_model.specs.Values.{Value, Word, At}
use Rattle.pi_machine.specs.State.{State, Thing}
use Rattle.pi_machine.specs.Deeds.{Deed, changed_at}
use Rattle.pi_machine.specs.Operands.{Deeds, with_ref, is_reference_value}

-- a thing stands between those before it and those behind it, and a change of it changes no other
pub record StandsBetween (things : List Thing) (n : ℕ) (x : Thing) : Type 0 where
  pub front : List Thing
  pub back : List Thing
  pub before : length front ≡ n
  pub is : things ≡ front ++ x ∷ back
  pub changed : (change : Thing → Thing) → changed_at change n things ≡ front ++ change x ∷ back

-- from the place of a thing to the things before it and behind it
abbrev pub ThingsStandBetween : Type 0
ThingsStandBetween = (things : List Thing) (n : ℕ) (x : Thing) → slice_get things n ≡ Some x → StandsBetween things n x

-- an operand that is null or names something, with which a row went on
pub record GoesOnWith (s : State) (v : Option Value) (go : Value → Deeds) (deeds : List Deed) : Type 0 where
  pub value : Value
  pub is : v ≡ Some value
  pub reference : is_reference_value s value ≡ true
  pub goes : go value ≡ Some deeds

-- a reference operand with one continuation for null and for things
abbrev pub ReferencesGoOnAlike : Type 0
ReferencesGoOnAlike = (s : State) (v : Option Value) (go : Value → Deeds) (deeds : List Deed)
    → with_ref s v (go (Word 0)) (λ r. go (At r)) ≡ Some deeds → GoesOnWith s v go deeds
