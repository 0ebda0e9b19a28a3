-- Calls: how the method is found, the tests of the receiver, natives, and frames. Restates the bytecode page and,
-- for the errors of a call, the linking chapter of the virtual machine specification.
use Rattle.std.specs.Prelude.{ℕ, ◌-◌, ◌==◌, ◌&&◌, List, [], ◌∷◌, ◌++◌, length, map, replicate, slice_index, Option, Some, None, Bool, true, false, if◌then◌else◌, option_map, option_and_then}
use Rattle.pi_model.specs.declared.numbers.NameNo.{NameNo}
use Rattle.pi_model.specs.declared.describe.ClassDesc.{ClassDesc}
use Rattle.pi_model.specs.declared.describe.MethodDesc.{MethodDesc}
use Rattle.pi_model.specs.declared.describe.Code.{Code}
use Rattle.pi_model.specs.declared.insn.MethodRef.{MethodRef}
use Rattle.pi_model.specs.declared.insn.How.{How}
use Rattle.pi_model.specs.declared.insn.How.TheVariants.{Virtual, Super, Direct, Static, Interface}
use Rattle.pi_model.specs.declared.insn.Kind.{Kind}
use Rattle.pi_model.specs.declared.insn.Kind.TheVariants as kind
use Rattle.pi_model.specs.Flags.{is_abstract}
use Rattle.pi_model.specs.Program.{Program}
use Rattle.pi_model.specs.Known.{JavaObject, NullPointer, AbstractMethod, IncompatibleClassChange, descriptor_of}
use Rattle.pi_model.specs.Texts.{units_of, same_text}
use Rattle.pi_model.specs.Search.{Member, class_at, method_at, method_of, method_no_of, superclass_of, find_method}
use Rattle.pi_model.specs.Dispatch.{dispatch}
use Rattle.pi_model.specs.Sizes.{is_reference}
use Rattle.pi_model.specs.Values.{Ref, Value, Word, Low, High}
use Rattle.pi_machine.specs.State.{State, Frame, Call}
use Rattle.pi_machine.specs.Deeds.{Push, CallNative, Hold}
use Rattle.pi_machine.specs.Objects.{shape_at, class_of_shape, class_descriptor}
use Rattle.pi_machine.specs.Operands.{Deeds, with_ref, registers_of, is_reference_value, go_on}
use Rattle.pi_machine.specs.Throwing.{throws, is_of_type}
use Rattle.pi_machine.specs.Codes.{code_of}
use Rattle.pi_machine.specs.Natives.{Native, Outcome, Gives, Fails, native_of, native_does}

-- the kind of a value of a type
abbrev pub kind_of_type : Program → NameNo → Kind
kind_of_type p t = by_letter (slice_index (units_of p t.0) 0)
  where
    by_letter : ℕ → Kind
    by_letter letter = if letter == 74 then kind.Wide else if is_reference letter then kind.Ref else kind.Word

-- the kinds of the arguments of a call, the receiver first
abbrev pub argument_kinds : Program → How → MethodRef → List Kind
argument_kinds p Static m = map (kind_of_type p) m.params
argument_kinds p Virtual m = kind.Ref ∷ map (kind_of_type p) m.params
argument_kinds p Super m = kind.Ref ∷ map (kind_of_type p) m.params
argument_kinds p Direct m = kind.Ref ∷ map (kind_of_type p) m.params
argument_kinds p Interface m = kind.Ref ∷ map (kind_of_type p) m.params

-- values are arguments of these kinds, a long in two of them
abbrev pub arguments_fit : State → List Kind → List Value → Bool
arguments_fit s [] [] = true
arguments_fit s [] (v ∷ vs) = false
arguments_fit s (k ∷ ks) [] = false
arguments_fit s (kind.Word ∷ ks) (v ∷ vs) = is_word v && arguments_fit s ks vs
  where
    is_word : Value → Bool
    is_word (Word n) = true
    is_word _ = false
arguments_fit s (kind.Ref ∷ ks) (v ∷ vs) = is_reference_value s v && arguments_fit s ks vs
arguments_fit s (kind.Wide ∷ ks) (Low low ∷ High high ∷ vs) = arguments_fit s ks vs
arguments_fit s (kind.Wide ∷ ks) _ = false

-- a frame of a code with these arguments, which arrive in the last registers; the others begin as 0. None where the
-- arguments are not as many words as the code asks for.
abbrev pub entry_frame : ℕ → Option Code → List Value → Option Frame
entry_frame m None args = None
entry_frame m (Some code) args =
    if length args == code.ins
    then Some (record { method = m; at = 0; registers = replicate (code.regs - code.ins) (Word 0) ++ args })
    else None

-- a frame is pushed
abbrev pub calls_frame : Option Frame → Deeds
calls_frame frame = option_map (λ f. Push (Call f) ∷ []) frame

-- a native is called in the step of its call: it holds its result and the run goes on, or it throws
abbrev pub native_ends : Program → State → Frame → ℕ → ℕ → Option Outcome → Deeds
native_ends p s f units m None = None
native_ends p s f units m (Some (Gives deeds held)) = Some (CallNative m ∷ deeds ++ Hold held ∷ go_on f units)
native_ends p s f units m (Some (Fails deeds class)) = option_map (λ thrown. CallNative m ∷ deeds ++ thrown) (throws p s class)

-- which native a member is
abbrev pub native_in : Program → Option ClassDesc → Option MethodDesc → Option Native
native_in p None m = None
native_in p (Some d) None = None
native_in p (Some d) (Some m) = native_of p d m

-- which native the member of a class and place is
abbrev pub native_at : Program → Member → Option Native
native_at p i = native_in p (class_at p i.class) (method_at p i)

-- a method is abstract
abbrev pub is_abstract_method : Option MethodDesc → Bool
is_abstract_method None = false
is_abstract_method (Some m) = is_abstract m.flags

-- the call of a method by its number: a native, or a frame of its code
abbrev pub enters_method : Program → State → Frame → ℕ → ℕ → List Value → Option Native → Deeds
enters_method p s f units m args (Some native) = native_ends p s f units m (native_does p s native args)
enters_method p s f units m args None = calls_frame (entry_frame m (code_of p m) args)

-- the call of the method that the search reached; none, or an abstract one, throws
abbrev pub call_row : Program → State → Frame → ℕ → List Value → Option Member → Deeds
call_row p s f units args None = throws p s AbstractMethod
call_row p s f units args (Some i) =
    if is_abstract_method (method_at p i) then throws p s AbstractMethod
    else enters_method p s f units (method_no_of p i) args (native_at p i)

-- the method that a search from a class upward reaches
abbrev pub dispatch_from : Program → MethodRef → Option ℕ → Option Member
dispatch_from p m c = option_and_then (dispatch p m) c

-- by the receiver's type
abbrev pub receiver_class : Program → State → Ref → Option ℕ
receiver_class p s r = option_and_then (class_of_shape p) (shape_at p s r)

-- a call by the class of the receiver
abbrev pub virtual_row : Program → State → Frame → ℕ → MethodRef → List Value → Ref → Deeds
virtual_row p s f units m args r = call_row p s f units args (dispatch_from p m (receiver_class p s r))

-- from the superclass of the class that holds the code
abbrev pub code_class : Program → Frame → Option ℕ
code_class p f = option_map (λ (i : Member). i.class) (method_of p f.method)

-- a call from the superclass of the class that holds the code
abbrev pub super_row : Program → State → Frame → ℕ → MethodRef → List Value → Deeds
super_row p s f units m args = call_row p s f units args (dispatch_from p m (option_and_then (superclass_of p) (code_class p f)))

-- By the receiver's type, which must have the interface that declares the method. Where Object declares it, it is called
-- as any virtual method.
abbrev pub interface_row : Program → State → Frame → ℕ → MethodRef → Member → List Value → Ref → Deeds
interface_row p s f units m i args r =
    if same_text (class_descriptor p i.class) (descriptor_of JavaObject) then virtual_row p s f units m args r else
    if is_of_type p s r (class_descriptor p i.class) then virtual_row p s f units m args r else throws p s IncompatibleClassChange

-- go on with the receiver, the first argument; null throws
abbrev pub with_receiver : Program → State → List Value → (Ref → Deeds) → Deeds
with_receiver p s [] go = None
with_receiver p s (v ∷ vs) go = with_ref s (Some v) (throws p s NullPointer) go

-- the call of a method that was found, with its arguments
abbrev pub invocation : Program → State → Frame → ℕ → How → MethodRef → List Value → Member → Deeds
invocation p s f units Static m args i = call_row p s f units args (Some i)
invocation p s f units Direct m args i = with_receiver p s args (λ r. call_row p s f units args (Some i))
invocation p s f units Super m args i = with_receiver p s args (λ r. super_row p s f units m args)
invocation p s f units Virtual m args i = with_receiver p s args (virtual_row p s f units m args)
invocation p s f units Interface m args i = with_receiver p s args (interface_row p s f units m i args)

-- arguments of the wrong kinds are stuck
abbrev pub with_arguments : Program → State → How → MethodRef → Option (List Value) → (List Value → Deeds) → Deeds
with_arguments p s how m None go = None
with_arguments p s how m (Some args) go = if arguments_fit s (argument_kinds p how m) args then go args else None

-- a call: its arguments, then its method
abbrev pub invoke_row : Program → State → Frame → ℕ → How → MethodRef → List ℕ → Deeds
invoke_row p s f units how m regs =
    with_arguments p s how m (registers_of f regs) (λ args. option_and_then (invocation p s f units how m args) (find_method p m))
