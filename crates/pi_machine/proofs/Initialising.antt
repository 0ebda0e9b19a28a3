-- Worked examples of initialisation: which classes are initialised, when, in which order, and in how many steps.
use Rattle.std.proofs.Common.{Some, None, Option, ◌≡◌, ℕ, List, [], ◌∷◌, ◌++◌, refl}
use Rattle.std.specs.Prelude.{codes, option_and_then, replicate, slice_get}
use Rattle.pi_model.specs.declared.reason.ClassState.{ClassState}
use Rattle.pi_model.specs.declared.reason.ClassState.TheVariants.{Fresh, InProgress, Done}
use Rattle.pi_model.specs.declared.describe.ClassDesc.{ClassDesc}
use Rattle.pi_model.specs.declared.describe.FieldDesc.{FieldDesc}
use Rattle.pi_model.specs.declared.describe.Init.TheVariants as init
use Rattle.pi_model.specs.declared.insn.Insn.{Insn}
use Rattle.pi_model.specs.declared.insn.Insn.TheVariants.{Const, ConstString, ConstClass, CheckCast, InstanceOf, NewInstance, NewArray, ReturnVoid, Sget, If, BinaryLit, MoveException, Invoke}
use Rattle.pi_model.specs.declared.insn.Access.TheVariants as access
use Rattle.pi_model.specs.declared.insn.Cond.TheVariants.{Ne}
use Rattle.pi_model.specs.declared.insn.BinOp.TheVariants.{Add}
use Rattle.pi_model.specs.declared.insn.How.TheVariants.{Static, Interface}
use Rattle.pi_model.specs.Known.{descriptor_of}
use Rattle.pi_model.specs.Program.{Program, with_file}
use Rattle.pi_model.specs.Values.{Lit, Cls, Word, Long, At, Array}
use Rattle.pi_machine.specs.State.{State, Made, Touched, ValuesSet}
use Rattle.pi_machine.specs.Deeds.{Saw, OfStatus, Touch, SetStatic, SetPhase}
use Rattle.pi_machine.specs.Step.{deeds_of, after_steps}
use Rattle.pi_machine.specs.Start.{first_state, start_state}
use Rattle.pi_machine.specs.Ends.{Returned}
use Rattle.pi_machine.proofs.Examples.{Same, outcome, Outcomes, ends_with, prints_in, dies}
use Rattle.pi_machine.proofs.Sample.{chain, class, object, byte, code, handler, method, instance_field, string, class_class, throwable, system, no, int, long, void, field, field_ref, method_ref, main_method, print, print_long, print_text, wide, finish}
use Rattle.pi_machine.proofs.Layouts.{names, tried, divides, t, a, b, i, j, x, y, f, hi, z, a_array, with_x, starts, below, having, shows, get_x, put_x, f_method, call_f, main_and, Sees}

-- superclasses
superclasses : Outcomes (
    -- The superclass is initialised first: main's class and its start take four steps; B is entered, then A: its values, the
    -- call, three instructions, done; then B's values, its call, three instructions, done; the read and the return.
    prints_in (main_and (get_x 0 b ∷ ReturnVoid ∷ []) (having a (shows 1) ∷ below a b (shows 2) ∷ [])) (codes "1\n2\n") 20
    -- it may stand behind its subclass
    ∷ prints_in (main_and (get_x 0 b ∷ ReturnVoid ∷ []) (below a b (shows 2) ∷ having a (shows 1) ∷ [])) (codes "1\n2\n") 20
    -- a superclass that is done is not initialised again
    ∷ prints_in (main_and (get_x 0 a ∷ get_x 0 b ∷ ReturnVoid ∷ []) (having a (shows 1) ∷ below a b (shows 2) ∷ [])) (codes "1\n2\n") 21
    -- the use of a superclass leaves its subclass alone
    ∷ prints_in (main_and (get_x 0 a ∷ ReturnVoid ∷ []) (having a (shows 1) ∷ below a b (shows 2) ∷ [])) (codes "1\n") 13
    -- a class without an initialiser takes three steps: enter, the static values, done
    ∷ prints_in (main_and (get_x 0 a ∷ ReturnVoid ∷ []) (class 1 a 1 (Some object) [] with_x [] ∷ [])) [] 9
    ∷ [])
unfolding outcome
superclasses = refl

-- an interface with a static x and an initialiser that prints 9
abbrev face : ClassDesc
face = class 1 i 0x601 (Some object) [] with_x (starts (shows 9))

-- interfaces
interfaces : Outcomes (
    -- no superinterface is initialised with a class
    prints_in (main_and (get_x 0 a ∷ ReturnVoid ∷ []) (face ∷ class 1 a 1 (Some object) (i ∷ []) with_x (starts (shows 1)) ∷ [])) (codes "1\n") 13
    -- nor with an interface below it
    ∷ prints_in (main_and (get_x 0 j ∷ ReturnVoid ∷ []) (face ∷ class 1 j 0x601 (Some object) (i ∷ []) with_x (starts (shows 1)) ∷ [])) (codes "1\n") 13
    -- a static that a class has from an interface needs the interface, and not the class
    ∷ prints_in (main_and (get_x 0 a ∷ ReturnVoid ∷ []) (face ∷ class 1 a 1 (Some object) (i ∷ []) [] (starts (shows 1)) ∷ [])) (codes "9\n") 13
    ∷ [])
unfolding outcome
interfaces = refl

-- an initialiser that makes an instance of its class and calls its method
abbrev uses_itself : ClassDesc
uses_itself = class 1 a 1 (Some object) [] with_x (starts (NewInstance 0 a ∷ call_f a ∷ ReturnVoid ∷ []) ++ f_method (shows 3) ∷ [])

-- A circle: B is below A; the initialiser of A sets A.x to B.x and 1, that of B sets B.x to 5.
abbrev circle : List Insn → Program
circle insns =
    main_and insns (having a (get_x 0 b ∷ BinaryLit Add 0 0 1 ∷ put_x 0 a ∷ ReturnVoid ∷ []) ∷ below a b (Const 0 5 ∷ put_x 0 b ∷ ReturnVoid ∷ []) ∷ [])

-- uses of a class by its own initialiser
own_uses : Outcomes (
    -- a class in progress is used by its own initialiser, which reads and writes its static
    prints_in (main_and (get_x 0 a ∷ print 0 ∷ ReturnVoid ∷ []) (having a (Const 0 7 ∷ put_x 0 a ∷ get_x 1 a ∷ print 1 ∷ ReturnVoid ∷ []) ∷ [])) (codes "7\n7\n") 16
    -- so it does, and the method prints 3
    ∷ prints_in (main_and (get_x 0 a ∷ ReturnVoid ∷ []) (uses_itself ∷ [])) (codes "3\n") 16
    -- B first: A finds B in progress, with x still 0
    ∷ prints_in (circle (get_x 0 b ∷ print 0 ∷ get_x 0 a ∷ print 0 ∷ ReturnVoid ∷ [])) (codes "5\n1\n") 24
    -- A first: B is initialised whole in the midst of A, which it finds in progress
    ∷ prints_in (circle (get_x 0 a ∷ print 0 ∷ get_x 0 b ∷ print 0 ∷ ReturnVoid ∷ [])) (codes "6\n5\n") 24
    ∷ [])
unfolding outcome
own_uses = refl

-- Static values: an int, a long, a text and a class. The initialiser prints them, and 1 where the class is its own.
abbrev valued : List FieldDesc
valued =
    field x int 8 (init.Word 7) ∷ field y long 8 (init.Long 5000000000) ∷ field z string 8 (init.Str hi)
    ∷ field f class_class 8 (init.Cls a) ∷ []

abbrev prints_values : List Insn
prints_values =
    get_x 0 a ∷ print 0
    ∷ Sget access.Wide 0 (field_ref a y long) ∷ print_long 0
    ∷ Sget access.Ref 0 (field_ref a z string) ∷ print_text 0
    ∷ Sget access.Ref 0 (field_ref a f class_class) ∷ ConstClass 1 a ∷ If Ne 0 1 19 ∷ Const 0 1 ∷ print 0
    ∷ ReturnVoid ∷ []

-- The initialiser of A writes 9 into B.x, where B is below A and has none.
abbrev writes_below : List FieldDesc → Program
writes_below fields = main_and (get_x 0 b ∷ print 0 ∷ ReturnVoid ∷ []) (having a (Const 0 9 ∷ put_x 0 b ∷ ReturnVoid ∷ []) ∷ class 1 b 1 (Some a) [] fields [] ∷ [])

-- static values
static_values : Outcomes (
    -- they are set before the initialiser runs
    prints_in (main_and (get_x 0 a ∷ ReturnVoid ∷ []) (class 1 a 1 (Some object) [] valued (starts prints_values) ∷ [])) (codes "7\n5000000000\nhi1\n") 22
    -- a field without a static value keeps it
    ∷ prints_in (writes_below with_x) (codes "9\n") 17
    -- one with a static value does not
    ∷ prints_in (writes_below (field x int 8 (init.Word 3) ∷ [])) (codes "3\n") 17
    ∷ [])
unfolding outcome
static_values = refl

-- they are set in the order of the fields, all in the one step after the class was entered and its superclass
-- was found done
values_in_order : Sees (main_and (get_x 0 a ∷ ReturnVoid ∷ []) (class 1 a 1 (Some object) [] valued [] ∷ []))
    (deeds_of (main_and (get_x 0 a ∷ ReturnVoid ∷ []) (class 1 a 1 (Some object) [] valued [] ∷ []))) 5
    (Some (Saw (OfStatus 0 Done) ∷ SetStatic 1 (Word 7) ∷ SetStatic 2 (Long 5000000000) ∷ Touch 69 ∷ SetStatic 3 (At (Lit 69)) ∷ SetStatic 4 (At (Cls 61)) ∷ SetPhase ValuesSet ∷ []))
unfolding outcome
values_in_order = refl

-- main takes the literal that A has as a static value, and then uses A
abbrev touched_before : Program
touched_before = main_and (ConstString 0 hi ∷ Sget access.Ref 1 (field_ref a z string) ∷ ReturnVoid ∷ []) (class 1 a 1 (Some object) [] (field z string 8 (init.Str hi) ∷ []) [] ∷ [])

-- setting the value is a touch though the literal was touched before
touches_again : Sees touched_before (deeds_of touched_before) 6 (Some (Saw (OfStatus 0 Done) ∷ Touch 69 ∷ SetStatic 1 (At (Lit 69)) ∷ SetPhase ValuesSet ∷ []))
unfolding outcome
touches_again = refl

-- but the literal keeps its one place, behind the array of arguments
one_place : Sees touched_before (λ (s : State). s.things) 7 (Made None (Array 43 []) ∷ Touched None 69 ∷ [])
unfolding outcome
one_place = refl

-- A in the second file, B below it and main in the third
abbrev three_files : List Insn → Program
three_files insns =
    with_file (chain names (having a (shows 1) ∷ [])) [] []
    (class 2 b 1 (Some a) [] with_x (starts (shows 2)) ∷ class 2 t 1 (Some object) [] [] (main_method insns [] ∷ []) ∷ [])

-- classes of other files
earlier_files : Outcomes (
    -- a class of an earlier file is initialised from a later one, whose main is method 14
    ends_with (three_files (get_x 0 a ∷ ReturnVoid ∷ [])) wide 14 [] (finish Returned (codes "1\n") 13)
    -- and so is a superclass
    ∷ ends_with (three_files (get_x 0 b ∷ ReturnVoid ∷ [])) wide 14 [] (finish Returned (codes "1\n2\n") 20)
    ∷ [])
unfolding outcome
earlier_files = refl

-- A with a static x and a method f that prints 2, and an initialiser that prints 1; B below it, whose initialiser prints 3
abbrev a_with_f : List ClassDesc
a_with_f = class 1 a 1 (Some object) [] with_x (starts (shows 1) ++ f_method (shows 2) ∷ []) ∷ class 1 b 1 (Some a) [] [] (starts (shows 3)) ∷ []

-- which instructions need a class
needed_classes : Outcomes (
    -- a new instance needs its class
    prints_in (main_and (NewInstance 0 a ∷ ReturnVoid ∷ []) (having a (shows 1) ∷ [])) (codes "1\n") 13
    -- and so do a read
    ∷ prints_in (main_and (get_x 0 a ∷ ReturnVoid ∷ []) (having a (shows 1) ∷ [])) (codes "1\n") 13
    -- and a write of a static field
    ∷ prints_in (main_and (put_x 0 a ∷ ReturnVoid ∷ []) (having a (shows 1) ∷ [])) (codes "1\n") 13
    -- and the call of a static method
    ∷ prints_in (main_and (call_f a ∷ ReturnVoid ∷ []) a_with_f) (codes "1\n2\n") 16
    -- a static method of the superclass that is called by the subclass's name needs the superclass alone
    ∷ prints_in (main_and (call_f b ∷ ReturnVoid ∷ []) a_with_f) (codes "1\n2\n") 16
    -- a static field of the superclass that is read so
    ∷ prints_in (main_and (get_x 0 b ∷ ReturnVoid ∷ []) a_with_f) (codes "1\n") 13
    -- or written so
    ∷ prints_in (main_and (put_x 0 b ∷ ReturnVoid ∷ []) a_with_f) (codes "1\n") 13
    -- a new instance of the subclass needs both
    ∷ prints_in (main_and (NewInstance 0 b ∷ ReturnVoid ∷ []) a_with_f) (codes "1\n3\n") 20
    -- class objects, tests of types and arrays need no class
    ∷ prints_in (main_and (ConstClass 0 a ∷ InstanceOf 1 8 a ∷ CheckCast 2 a ∷ NewArray 3 4 a_array ∷ ReturnVoid ∷ []) (having a (shows 1) ∷ [])) [] 9
    ∷ [])
unfolding outcome
needed_classes = refl

-- interfaces and handlers
needed_interfaces : Outcomes (
    -- a static method of an interface needs the interface
    prints_in (main_and (call_f i ∷ ReturnVoid ∷ []) (class 1 i 0x601 (Some object) [] [] (starts (shows 9) ++ f_method (shows 2) ∷ []) ∷ [])) (codes "9\n2\n") 16
    -- a call through an interface does not: A has the method, and is needed by the new instance
    ∷ prints_in (
    main_and (NewInstance 0 a ∷ Invoke Interface (method_ref i f [] void) (0 ∷ []) ∷ ReturnVoid ∷ [])
    (class 1 i 0x601 (Some object) [] [] (starts (shows 9) ++ method f [] void 0x401 None ∷ [])
    ∷ class 1 a 1 (Some object) (i ∷ []) [] (starts (shows 1) ++ method f [] void 1 (code 2 1 (shows 2) []) ∷ []) ∷ [])) (codes "1\n2\n") 17
    -- the type of a handler is not initialised, whether it fits or not
    ∷ prints_in (
    tried (divides ++ MoveException 2 ∷ shows 1 ++ MoveException 2 ∷ shows 2) (handler 0 3 (Some a) 4 ∷ handler 0 3 None 10 ∷ [])
    (class 1 a 1 (Some throwable) [] with_x (starts (shows 9)) ∷ [])) (codes "2\n") 12
    ∷ [])
unfolding outcome
needed_interfaces = refl

-- statics of more than one class, and main's class
statics_of_classes : Outcomes (
    -- Each class has its own statics, found by its own numbers: A has an instance field beside its static x.
    prints_in (
    main_and (get_x 0 a ∷ print 0 ∷ get_x 0 b ∷ print 0 ∷ ReturnVoid ∷ [])
    (class 1 a 1 (Some object) [] (field x int 8 (init.Word 1) ∷ instance_field y int ∷ []) []
    ∷ class 1 b 1 (Some a) [] (field x int 8 (init.Word 2) ∷ []) [] ∷ [])) (codes "1\n2\n") 15
    -- a static value of a narrow type is a word with its sign
    ∷ prints_in (
    main_and (Sget access.Byte 0 (field_ref a y byte) ∷ print 0 ∷ ReturnVoid ∷ [])
    (class 1 a 1 (Some object) [] (field y byte 8 (init.Word 4294967295) ∷ []) [] ∷ [])) (codes "-1\n") 10
    -- main's class is initialised after its superclass and before main's frame is pushed, which is the fifteenth step; main is
    -- method 13
    ∷ ends_with (chain names (class 1 t 1 (Some a) [] [] (starts (shows 2) ++ main_method (shows 3) [] ∷ []) ∷ having a (shows 1) ∷ [])) wide 13 [] (finish Returned (codes "1\n2\n3\n") 18)
    ∷ [])
unfolding outcome
statics_of_classes = refl

-- The status of A along a run that uses it first in its fifth step and initialises it in seven.
abbrev reads_a : Program
reads_a = main_and (get_x 0 a ∷ ReturnVoid ∷ []) (having a (shows 1) ∷ [])

abbrev status_of_a : ℕ → Option ClassState
status_of_a steps = option_and_then (λ (s : State). slice_get s.statuses 30) (after_steps reads_a steps (start_state reads_a 12 []))

-- the status of A
statuses_of_a : Same (
    -- fresh before its first use
    (status_of_a 4, Some Fresh)
    -- in progress from then on
    ∷ (status_of_a 5, Some InProgress)
    -- until its initialiser has returned
    ∷ (status_of_a 10, Some InProgress)
    -- and done when its record goes
    ∷ (status_of_a 11, Some Done)
    ∷ [])
unfolding outcome
statuses_of_a = refl

-- The start classes are done: the first 26 classes here. The interfaces Cloneable and Serializable, System and T are fresh.
start_classes_done : (first_state (main_and (ReturnVoid ∷ []) [])).statuses ≡ (replicate 26 Done ++ replicate 4 Fresh)
unfolding descriptor_of
start_classes_done = refl

-- uses of the first file's classes
uses_of_start_classes : Outcomes (
    -- a new instance of a start class takes one step
    prints_in (main_and (NewInstance 0 throwable ∷ ReturnVoid ∷ []) []) [] 6
    -- System is none: its first use enters it, for three steps; the call then throws, since it is given null
    ∷ dies (main_and (Invoke Static (method_ref system (no 57) (object ∷ int ∷ object ∷ int ∷ int ∷ []) void) (0 ∷ 1 ∷ 2 ∷ 3 ∷ 4 ∷ []) ∷ ReturnVoid ∷ []) []) 9 None [] 9
    ∷ [])
unfolding outcome
uses_of_start_classes = refl
