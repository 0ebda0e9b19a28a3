-- Instructions on objects: new instances, tests of types, throw, and instance and static fields. Restates the
-- bytecode page; that a throw of what is no throwable is stuck is our own.
use Rattle.std.specs.Prelude.{ℕ, nat_lt, [], ◌∷◌, length, slice_get, Option, Some, None, if◌then◌else◌, option_and_then}
use Rattle.pi_model.specs.declared.numbers.NameNo.{NameNo}
use Rattle.pi_model.specs.declared.insn.Access.{Access}
use Rattle.pi_model.specs.declared.insn.FieldRef.{FieldRef}
use Rattle.pi_model.specs.Program.{Program}
use Rattle.pi_model.specs.Known.{Throwable, NullPointer, ClassCast, descriptor_of}
use Rattle.pi_model.specs.Texts.{units_of}
use Rattle.pi_model.specs.Search.{Member, class_of, find_field, field_no_of}
use Rattle.pi_model.specs.Fields.{new_instance, field_place, is_subclass}
use Rattle.pi_model.specs.Values.{Ref, Num, Word, At}
use Rattle.pi_machine.specs.State.{State, Frame}
use Rattle.pi_machine.specs.Deeds.{Make, Saw, OfStatic, OfField, Reads, Writes, SetStatic, SetField, Pend}
use Rattle.pi_machine.specs.Objects.{Shape, OfInstance, shape_at, object_at, field_in}
use Rattle.pi_machine.specs.Operands.{Deeds, first_do, with_ref, with_operand, of_kind, register_of, set_and_go, go_on, kind_of, stored_value}
use Rattle.pi_machine.specs.Throwing.{throws, next_made, is_of_type}
use Rattle.pi_machine.specs.Natives.{truth}

-- a new instance of a class, with zero fields
abbrev pub new_instance_row : Program → State → Frame → ℕ → ℕ → NameNo → Deeds
new_instance_row p s f units a t = option_and_then (λ c. first_do (Make (new_instance p c)) (set_and_go f units a (At (next_made s)))) (class_of p t)

-- monitors ask only that the object is there
abbrev pub monitor_row : Program → State → Frame → ℕ → ℕ → Deeds
monitor_row p s f units a = with_ref s (register_of f a) (throws p s NullPointer) (λ r. Some (go_on f units))

-- null passes every cast, and an object one to a type that it fits
abbrev pub check_cast_row : Program → State → Frame → ℕ → ℕ → NameNo → Deeds
check_cast_row p s f units a t = with_ref s (register_of f a) (Some (go_on f units)) (λ r.
    if is_of_type p s r (units_of p t.0) then Some (go_on f units) else throws p s ClassCast)

-- whether an object is of a type; null is of none
abbrev pub instance_of_row : Program → State → Frame → ℕ → ℕ → ℕ → NameNo → Deeds
instance_of_row p s f units a b t = with_ref s (register_of f b) (set_and_go f units a (Word 0)) (λ r.
    set_and_go f units a (Word (truth (is_of_type p s r (units_of p t.0)))))

-- a throwable is thrown; what is no throwable is of the wrong kind
abbrev pub throw_row : Program → State → Frame → ℕ → Deeds
throw_row p s f a = with_ref s (register_of f a) (throws p s NullPointer) (λ r.
    if is_of_type p s r (descriptor_of Throwable) then Some (Pend r ∷ []) else None)

-- go on with the number of an instance and the place of a field in it, if its class has that field
abbrev pub with_instance : Program → Ref → Member → Option Shape → (ℕ → ℕ → Deeds) → Deeds
with_instance p (Num n) i (Some (OfInstance c fields)) go =
    if is_subclass p c i.class then option_and_then (λ place. if nat_lt place fields then go n place else None) (field_place p i) else None
with_instance p r i shape go = None

-- a field that was found is read into a register
abbrev pub reads_field : Program → State → Frame → ℕ → Access → ℕ → ℕ → Member → Deeds
reads_field p s f units access a b i =
    with_ref s (register_of f b) (throws p s NullPointer) (λ o. with_instance p o i (shape_at p s o) (λ n place.
    of_kind (kind_of access) (field_in (object_at p s o) place) (λ v.
    first_do (Reads n) (first_do (Saw (OfField o place v)) (set_and_go f units a v)))))

-- a field is read into a register
abbrev pub iget_row : Program → State → Frame → ℕ → Access → ℕ → ℕ → FieldRef → Deeds
iget_row p s f units access a b r = option_and_then (reads_field p s f units access a b) (find_field p r)

-- a register is written to a field that was found
abbrev pub writes_field : Program → State → Frame → ℕ → Access → ℕ → ℕ → Member → Deeds
writes_field p s f units access a b i =
    with_operand s f (kind_of access) a (λ v. with_ref s (register_of f b) (throws p s NullPointer) (λ o.
    with_instance p o i (shape_at p s o) (λ n place. Some (Writes n ∷ SetField n place (stored_value access v) ∷ go_on f units))))

-- a register is written to a field
abbrev pub iput_row : Program → State → Frame → ℕ → Access → ℕ → ℕ → FieldRef → Deeds
iput_row p s f units access a b r = option_and_then (writes_field p s f units access a b) (find_field p r)

-- a static field that was found is read into a register
abbrev pub reads_static_field : Program → State → Frame → ℕ → Access → ℕ → Member → Deeds
reads_static_field p s f units access a i =
    of_kind (kind_of access) (slice_get s.statics (field_no_of p i)) (λ v.
    first_do (Saw (OfStatic (field_no_of p i) v)) (set_and_go f units a v))

-- a static field is read into a register
abbrev pub sget_row : Program → State → Frame → ℕ → Access → ℕ → FieldRef → Deeds
sget_row p s f units access a r = option_and_then (reads_static_field p s f units access a) (find_field p r)

-- a register is written to a static field that was found
abbrev pub writes_static_field : Program → State → Frame → ℕ → Access → ℕ → Member → Deeds
writes_static_field p s f units access a i =
    with_operand s f (kind_of access) a (λ v.
    if nat_lt (field_no_of p i) (length s.statics)
    then Some (SetStatic (field_no_of p i) (stored_value access v) ∷ go_on f units) else None)

-- a register is written to a static field
abbrev pub sput_row : Program → State → Frame → ℕ → Access → ℕ → FieldRef → Deeds
sput_row p s f units access a r = option_and_then (writes_static_field p s f units access a) (find_field p r)
