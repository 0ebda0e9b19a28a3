-- The state in which a run starts, and which method is main. All of it is our own.
use Rattle.std.specs.Prelude.{◌++◌, length, Option, Some, None, ℕ, ◌+◌, ◌==◌, ◌&&◌, is_some, position, option_map, option_and_then, List, [], ◌∷◌, map, flat_map, sum_by, Bool, false, if◌then◌else◌, unwrap_or, codes}
use Rattle.std.specs.List.{list_any}
use Rattle.pi_model.specs.declared.reason.ClassState.{ClassState}
use Rattle.pi_model.specs.declared.reason.ClassState.TheVariants.{Fresh, Done}
use Rattle.pi_model.specs.declared.describe.ClassDesc.{ClassDesc}
use Rattle.pi_model.specs.declared.describe.MethodDesc.{MethodDesc}
use Rattle.pi_model.specs.Flags.{is_static}
use Rattle.pi_model.specs.Program.{Program, method_number}
use Rattle.pi_model.specs.Texts.{is_named, are_named, name_of}
use Rattle.pi_model.specs.Search.{class_at}
use Rattle.pi_model.specs.Values.{Num, Value, At, Object, Array, Text}
use Rattle.pi_model.specs.Sizes.{object_bytes}
use Rattle.pi_model.specs.Fields.{first_value}
use Rattle.pi_model.specs.Known.{Known, JavaObject, JavaString, JavaClass, Throwable, Exception, Error, RuntimeException, CloneNotSupported, Arithmetic, NullPointer, IndexOutOfBounds, NegativeArraySize, ArrayStore, ClassCast, IllegalArgument, IllegalState, UnsupportedOperation, ArrayIndexOutOfBounds, StringIndexOutOfBounds, LinkageError, NoClassDefFound, ExceptionInInitializer, IncompatibleClassChange, AbstractMethod, PiOut, PiText, descriptor_of}
use Rattle.pi_machine.specs.State.{State, Made, Nothing}

-- the start classes, which begin done where the first file defines them: they have no initialiser and no static field
abbrev pub start_classes : List Known
start_classes =
    JavaObject ∷ PiOut ∷ PiText ∷ JavaString ∷ JavaClass ∷ Throwable ∷ Exception ∷ Error ∷ RuntimeException ∷ CloneNotSupported
    ∷ Arithmetic ∷ NullPointer ∷ IndexOutOfBounds ∷ NegativeArraySize ∷ ArrayStore ∷ ClassCast ∷ IllegalArgument
    ∷ IllegalState ∷ UnsupportedOperation ∷ ArrayIndexOutOfBounds ∷ StringIndexOutOfBounds ∷ LinkageError ∷ NoClassDefFound
    ∷ ExceptionInInitializer ∷ IncompatibleClassChange ∷ AbstractMethod ∷ []

-- a class of the first file with one of these names
abbrev pub is_start_class : Program → ClassDesc → Bool
is_start_class p d = (d.file.0 == 0) && list_any (λ k. is_named p d.name (descriptor_of k)) start_classes

-- the status of a class before anything runs
abbrev pub first_status : Program → ClassDesc → ClassState
first_status p d = if is_start_class p d then Done else Fresh

-- the values of the fields of a class before anything runs
abbrev pub first_values : Program → ClassDesc → List Value
first_values p d = map (first_value p) d.fields

-- references to the things from a place on, one for each text
abbrev pub references_from : ℕ → List (List ℕ) → List Value
references_from place [] = []
references_from place (t ∷ others) = At (Num place) ∷ references_from (place + 1) others

-- the array of arguments, then its texts in order, which are the things from a place on
abbrev pub argument_objects : Program → ℕ → List (List ℕ) → List Object
argument_objects p place args =
    Array (unwrap_or (name_of p (codes "[Ljava/lang/String;")) 0) (references_from (place + 1) args) ∷ map (λ units. Text units) args

-- the bytes of the arguments, which count as heap bytes
abbrev pub argument_bytes : Program → List (List ℕ) → ℕ
argument_bytes p args = sum_by (object_bytes p) (argument_objects p 0 args)

-- Nothing has run and nothing is made: the start classes are done and all others fresh, all statics 0 or null, no literal
-- touched, and no main is named.
abbrev pub first_state : Program → State
first_state p = record {
  things = [];
  statics = flat_map (first_values p) p.classes;
  statuses = map (first_status p) p.classes;
  main = None;
  args = None;
  started = false;
  stack = [];
  pending = None;
  held = Nothing;
  output = [];
  file = None;
}

-- a state in which the arguments are made, for no image, main is named, and nothing is printed
abbrev pub with_main : Program → ℕ → List (List ℕ) → State → State
with_main p main args s = record s {
  things = s.things ++ map (λ o. Made None o) (argument_objects p (length s.things) args);
  main = Some main;
  args = Some (Num (length s.things));
  output = [];
}

-- the state in which a run starts
abbrev pub start_state : Program → ℕ → List (List ℕ) → State
start_state p main args = with_main p main args (first_state p)

-- a static method main(String[]) without result, with code
unfoldable pub is_main : Program → MethodDesc → Bool
is_main p m =
    is_named p m.name (codes "main") && (are_named p m.params (codes "[Ljava/lang/String;" ∷ []) && (is_named p m.ret (codes "V")
    && (is_static m.flags && is_some m.code)))

-- the method that a run begins for: main as the class of a descriptor declares it itself
abbrev pub main_place : Program → ClassDesc → Option ℕ
main_place p d = position (is_main p) d.methods

-- the number of main of a class
abbrev pub main_in : Program → ℕ → Option ℕ
main_in p c = option_map (method_number p c) (option_and_then (main_place p) (class_at p c))

-- the number of main of the class of a descriptor
abbrev pub main_of : Program → List ℕ → Option ℕ
main_of p descriptor = option_and_then (main_in p) (position (λ (d : ClassDesc). is_named p d.name descriptor) p.classes)
