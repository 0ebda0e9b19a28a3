-- What a guard is asked of a step before it is done: the acts of its deeds, in the order of the reasons for which the
-- initialisation of a class ahead of time ends (docs/transaction.md). All of it is our own.
use Rattle.std.specs.Prelude.{ℕ, List, [], ◌∷◌, ◌++◌, slice_get, Option, Some, None, if◌then◌else◌, option_map, option_and_then, option_to_list}
use Rattle.pi_model.specs.declared.reason.ClassState.TheVariants.{InProgress}
use Rattle.pi_model.specs.declared.describe.ClassDesc.{ClassDesc}
use Rattle.pi_model.specs.Program.{Program}
use Rattle.pi_model.specs.Search.{Member, class_at, field_of, method_of, or_else}
use Rattle.pi_model.specs.Values.{Num}
use Rattle.pi_machine.specs.State.{State, Thing, Made, Touched}
use Rattle.pi_machine.specs.Deeds.{Deed, Saw, OfStatic, Writes, SetStatic, SetStatus, CallNative}
use Rattle.pi_machine.specs.Objects.{shape_at}
use Rattle.pi_machine.specs.Natives.{Native, is_pure, type_name_of}
use Rattle.pi_machine.specs.Rows.Calls.{native_at}

-- a class is entered; a static of a class is written, with the class's type and file; an object is written, with the file
-- for whose image it is, or none, and its type; a static of a class is read; a native that is not pure is called; the
-- step is made at all. Types are told by the number of their name.
pub data Act : Type 0 where
  EnterClass : (class : ℕ) → Act
  WriteStatic : (class ty file : ℕ) → Act
  WriteObject : (file : Option ℕ) (ty : ℕ) → Act
  ReadStatic : (class : ℕ) → Act
  CallImpure : (method : ℕ) → Act
  Turn : Act

-- the first answer that a deed of a list gives
abbrev pub first_of : {A : Type 0} → (Deed → Option A) → List Deed → Option A
first_of ask [] = None
first_of ask (d ∷ ds) = or_else (ask d) (first_of ask ds)

-- a class that is entered
abbrev pub entered_by : Deed → Option ℕ
entered_by (SetStatus c InProgress) = Some c
entered_by _ = None

-- the class that declares the field of a number
abbrev pub field_class : Program → ℕ → Option ℕ
field_class p f = option_map (λ (i : Member). i.class) (field_of p f)

-- a static of a class is written
abbrev pub static_write : Program → ℕ → Option Act
static_write p c = option_map (λ (d : ClassDesc). WriteStatic c d.name.0 d.file.0) (class_at p c)

-- a thing is written, which has a file or none
abbrev pub object_write : Program → State → ℕ → Option Thing → Option Act
object_write p s n (Some (Made file o)) = option_map (WriteObject file) (type_name_of p (shape_at p s (Num n)))
object_write p s n (Some (Touched file m)) = None
object_write p s n None = None

-- the write of a deed
abbrev pub write_by : Program → State → Deed → Option Act
write_by p s (SetStatic f v) = option_and_then (static_write p) (field_class p f)
write_by p s (Writes n) = object_write p s n (slice_get s.things n)
write_by p s _ = None

-- the class whose static is read
abbrev pub read_by : Program → Deed → Option ℕ
read_by p (Saw (OfStatic f v)) = field_class p f
read_by p _ = None

-- a native that is called and is not pure
abbrev pub if_impure : ℕ → Option Native → Option ℕ
if_impure m None = None
if_impure m (Some native) = if is_pure native then None else Some m

-- a call of a native that is not pure
abbrev pub impure_call : Program → Deed → Option ℕ
impure_call p (CallNative m) = if_impure m (option_and_then (native_at p) (method_of p m))
impure_call p _ = None

-- those of some acts that there are
abbrev pub those_of : List (Option Act) → List Act
those_of [] = []
those_of (a ∷ others) = option_to_list a ++ those_of others

-- The acts of a step with these deeds, from a state: the first of each kind. It stands for all, since a step enters one class
-- at most, all that it writes is one object or statics of one class, all statics that it reads are of one class, and it calls
-- one native at most.
abbrev pub acts : Program → State → List Deed → List Act
acts p s deeds = those_of (
    option_map EnterClass (first_of entered_by deeds)
    ∷ first_of (write_by p s) deeds
    ∷ option_map ReadStatic (first_of (read_by p) deeds)
    ∷ option_map CallImpure (first_of (impure_call p) deeds)
    ∷ Some Turn
    ∷ [])
