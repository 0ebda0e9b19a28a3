-- The form of the list of deeds of a step, as statements: what it writes is one target, what it reads of statics is of one
-- class, and it makes one object at most, before any literal is touched.
use Rattle.std.specs.Prelude.{◌≡◌, ℕ, ◌<◌, length, List, [], ◌∷◌, Option, Some, None, Bool, true, false, not, if◌then◌else◌, option_map}
use Rattle.std.specs.List.{list_any}
use Rattle.pi_model.specs.Program.{Program, all_fields}
use Rattle.pi_machine.specs.State.{State}
use Rattle.pi_machine.specs.Deeds.{Deed, Make, Touch, Saw, OfStatic, Writes, SetStatic, SetStatus, SetField, SetItem, CallNative}
use Rattle.pi_model.specs.declared.reason.ClassState.TheVariants.{InProgress}
use Rattle.pi_machine.specs.Acts.{field_class, read_by}
use Rattle.pi_machine.specs.Step.{deeds_of}
use Rattle.pi_machine.specs.StepLaws.{EachDeed, HasField, HasItem}

-- what a step writes: statics of a class, or the thing at a place
pub data Target : Type 0 where
  StaticsOf : (class : ℕ) → Target
  ThingAt : (place : ℕ) → Target

-- a deed writes, or is the mark of a write
abbrev pub is_write : Deed → Bool
is_write (SetStatic f v) = true
is_write (Writes n) = true
is_write (SetField n i v) = true
is_write (SetItem n i v) = true
is_write _ = false

-- what a deed writes
abbrev pub target_of : Program → Deed → Option Target
target_of p (SetStatic f v) = option_map StaticsOf (field_class p f)
target_of p (Writes n) = Some (ThingAt n)
target_of p (SetField n i v) = Some (ThingAt n)
target_of p (SetItem n i v) = Some (ThingAt n)
target_of p _ = None

-- a deed writes this, or nothing
abbrev pub WritesTo : Program → Target → Deed → Type 0
WritesTo p t d = is_write d ≡ true → target_of p d ≡ Some t

-- all writes of a step have one target
abbrev pub WritesHaveOneTarget : Type 0
WritesHaveOneTarget = (p : Program) (s : State) (deeds : List Deed) → deeds_of p s ≡ Some deeds → (t : Target) × EachDeed (WritesTo p t) deeds

-- a static is read
abbrev pub reads_static : Deed → Bool
reads_static (Saw (OfStatic f v)) = true
reads_static _ = false

-- a deed reads a static of this class, or none
abbrev pub ReadsOf : Program → ℕ → Deed → Type 0
ReadsOf p c d = reads_static d ≡ true → read_by p d ≡ Some c

-- all statics that a step reads are of one class
abbrev pub StaticReadsHaveOneClass : Type 0
StaticReadsHaveOneClass = (p : Program) (s : State) (deeds : List Deed) → deeds_of p s ≡ Some deeds → (c : ℕ) × EachDeed (ReadsOf p c) deeds

-- a static, a field or an element that a deed writes is there
abbrev pub IsPlaceThere : State → Deed → Type 0
IsPlaceThere s (SetStatic field v) = field < length s.statics
IsPlaceThere s (SetField n place v) = HasField s n place
IsPlaceThere s (SetItem n place v) = HasItem s n place
IsPlaceThere s _ = Unit {0}

-- no write of a step to a static, a field or an element is lost, where there is a static for each field of the program
abbrev pub StepWritesAreInside : Type 0
StepWritesAreInside = (p : Program) (s : State) (deeds : List Deed) → length s.statics ≡ all_fields p → deeds_of p s ≡ Some deeds
    → EachDeed (IsPlaceThere s) deeds

-- a class is entered; a native is called
abbrev pub enters_class : Deed → Bool
enters_class (SetStatus c InProgress) = true
enters_class _ = false

abbrev pub calls_native : Deed → Bool
calls_native (CallNative m) = true
calls_native _ = false

-- one deed of a list passes the test at most
abbrev pub at_most_one : (Deed → Bool) → List Deed → Bool
at_most_one test [] = true
at_most_one test (d ∷ ds) = if test d then not (list_any test ds) else at_most_one test ds

-- a step enters one class at most, and calls one native at most
pub record StepsEnterAndCallOnce : Type 0 where
  pub enters : (p : Program) (s : State) (deeds : List Deed) → deeds_of p s ≡ Some deeds → at_most_one enters_class deeds ≡ true
  pub calls : (p : Program) (s : State) (deeds : List Deed) → deeds_of p s ≡ Some deeds → at_most_one calls_native deeds ≡ true

-- an object is made
abbrev pub makes : Deed → Bool
makes (Make o) = true
makes _ = false

-- one object is made at most, before any literal is touched
abbrev pub makes_first : List Deed → Bool
makes_first [] = true
makes_first (Make o ∷ ds) = not (list_any makes ds)
makes_first (Touch n ∷ ds) = not (list_any makes ds)
makes_first (d ∷ ds) = makes_first ds

abbrev pub StepsMakeFirst : Type 0
StepsMakeFirst = (p : Program) (s : State) (deeds : List Deed) → deeds_of p s ≡ Some deeds → makes_first deeds ≡ true
