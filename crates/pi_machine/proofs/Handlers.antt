-- Worked examples of throwables: initialisers that throw, erroneous classes, the search for a handler, and runs that end
-- by a throwable.
use Rattle.std.proofs.Common.{Some, None, List, [], ◌∷◌, ◌++◌, Option, refl}
use Rattle.std.specs.Prelude.{codes, slice_get, slice_set}
use Rattle.pi_model.specs.declared.numbers.NameNo.{NameNo}
use Rattle.pi_model.specs.declared.reason.ClassState.TheVariants.{Done, Erroneous}
use Rattle.pi_model.specs.declared.describe.ClassDesc.{ClassDesc}
use Rattle.pi_model.specs.declared.describe.Catch.{Catch}
use Rattle.pi_model.specs.declared.describe.MethodDesc.{MethodDesc}
use Rattle.pi_model.specs.declared.insn.Insn.{Insn}
use Rattle.pi_model.specs.declared.insn.Insn.TheVariants.{Const, ConstString, NewInstance, Throw, MoveException, MoveResult, ReturnVoid, If, Iput, Invoke}
use Rattle.pi_model.specs.declared.insn.Access.TheVariants as access
use Rattle.pi_model.specs.declared.insn.Kind.TheVariants as kind
use Rattle.pi_model.specs.declared.insn.Cond.TheVariants.{Ne}
use Rattle.pi_model.specs.declared.insn.How.TheVariants.{Virtual}
use Rattle.pi_model.specs.Program.{Program}
use Rattle.pi_model.specs.Values.{Word, Instance, Array}
use Rattle.pi_machine.specs.State.{State, Made}
use Rattle.pi_machine.specs.Start.{first_state}
use Rattle.pi_machine.specs.Ends.{Returned, Uncaught}
use Rattle.pi_machine.proofs.Examples.{outcome, Outcomes, ends_of, ends_with, prints_in, dies}
use Rattle.pi_machine.proofs.Sample.{chain, class, object, string, throwable, exception, error_class, runtime_exception, arithmetic, null_pointer, in_initializer, message, no, void, instance_field, field_ref, method, method_ref, main_method, clinit_method, code, handler, print, wide, finish}
use Rattle.pi_machine.proofs.Layouts.{names, t, a, b, c, f, y, hi, with_x, starts, below, having, shows, divides, get_x, f_method, call_f, tried, main_and, Sees}

-- Main reads A.x, where the initialiser of A divides by 0. A handler of a type, or of none, takes what the read throws,
-- prints 1, and reads A.x again.
abbrev reads_twice : Option NameNo → Program
reads_twice ty =
    tried (get_x 0 a ∷ ReturnVoid ∷ MoveException 1 ∷ Const 0 1 ∷ print 0 ∷ get_x 0 a ∷ ReturnVoid ∷ []) (handler 0 1 ty 2 ∷ [])
    (having a divides ∷ [])

-- uses of a class whose initialiser throws
uses_of_failed : Outcomes (
    -- The first use throws a new ExceptionInInitializerError, after 12 steps, and the second NoClassDefFoundError.
    dies (reads_twice (Some in_initializer)) 20 None (codes "1\n") 18
    -- a handler of LinkageError takes it too
    ∷ dies (reads_twice (Some (no 19))) 20 None (codes "1\n") 18
    -- and one of Error
    ∷ dies (reads_twice (Some error_class)) 20 None (codes "1\n") 18
    -- and one of Throwable
    ∷ dies (reads_twice (Some throwable)) 20 None (codes "1\n") 18
    -- and one of no type
    ∷ dies (reads_twice None) 20 None (codes "1\n") 18
    -- but none of Exception
    ∷ dies (reads_twice (Some exception)) 21 None [] 13
    -- nor one of what the initialiser threw
    ∷ dies (reads_twice (Some arithmetic)) 21 None [] 13
    -- what the second use throws has a handler too, which prints 2; the initialiser, which prints 7 before it throws, ran once
    ∷ prints_in (
    tried (get_x 0 a ∷ ReturnVoid ∷ MoveException 1 ∷ get_x 0 a ∷ ReturnVoid ∷ MoveException 1 ∷ Const 0 2 ∷ print 0 ∷ ReturnVoid ∷ [])
    (handler 0 1 (Some in_initializer) 2 ∷ handler 3 4 (Some (no 20)) 5 ∷ [])
    (having a (Const 0 7 ∷ print 0 ∷ divides) ∷ [])) (codes "7\n2\n") 22
    ∷ [])
unfolding outcome
uses_of_failed = refl

-- an initialiser that makes an instance of a class and throws it
abbrev throws_new : NameNo → List Insn
throws_new ty = NewInstance 0 ty ∷ Throw 0 ∷ []

-- what an initialiser throws
thrown_by_initialisers : Outcomes (
    -- an exception that the program made is replaced
    dies (main_and (get_x 0 a ∷ ReturnVoid ∷ []) (having a (throws_new runtime_exception) ∷ [])) 21 None [] 12
    -- an Error is kept
    ∷ dies (main_and (get_x 0 a ∷ ReturnVoid ∷ []) (having a (throws_new error_class) ∷ [])) 5 None [] 12
    -- and so is one of a class below Error, which is initialised for it
    ∷ dies (main_and (get_x 0 a ∷ ReturnVoid ∷ []) (having a (throws_new c) ∷ class 1 c 1 (Some error_class) [] [] [] ∷ [])) 31 None [] 15
    -- the class is erroneous all the same
    ∷ dies (tried (get_x 0 a ∷ ReturnVoid ∷ MoveException 1 ∷ get_x 0 a ∷ ReturnVoid ∷ []) (handler 0 1 (Some error_class) 2 ∷ []) (having a (throws_new error_class) ∷ [])) 20 None [] 15
    -- a class whose initialiser catches what it throws is done
    ∷ prints_in (main_and (get_x 0 a ∷ ReturnVoid ∷ []) (
    class 1 a 1 (Some object) [] with_x (clinit_method (code 2 0 (divides ++ MoveException 1 ∷ shows 2) (handler 2 3 None 4 ∷ [])) ∷ [])
    ∷ [])) (codes "2\n") 18
    ∷ [])
unfolding outcome
thrown_by_initialisers = refl

-- C below B below A, whose initialiser divides by 0; main reads the x of one class, catches what that throws, and reads
-- that of another
abbrev three_classes : NameNo → NameNo → Program
three_classes one other =
    tried (get_x 0 one ∷ ReturnVoid ∷ MoveException 1 ∷ get_x 0 other ∷ ReturnVoid ∷ []) (handler 0 1 None 2 ∷ [])
    (having a divides ∷ below a b (shows 2) ∷ below b c (shows 3) ∷ [])

-- classes below one that fails
classes_below_failed : Outcomes (
    -- A first: the record of B finds A erroneous and throws NoClassDefFoundError
    dies (three_classes a b) 20 None [] 18
    -- and what is thrown at the record of B goes through that of C as well, after C was entered and B from its record
    ∷ dies (three_classes a c) 20 None [] 20
    -- C first: all three are erroneous, and each further use of C throws
    ∷ dies (three_classes c c) 20 None [] 20
    -- of B
    ∷ dies (three_classes c b) 20 None [] 20
    -- and of A
    ∷ dies (three_classes c a) 20 None [] 20
    ∷ [])
unfolding outcome
classes_below_failed = refl

-- B is erroneous then
subclass_erroneous : Sees (three_classes a b) (λ (s : State). slice_get s.statuses 31) 17 (Some Erroneous)
unfolding outcome
subclass_erroneous = refl

-- Main divides by 0 at address 2. There are two handlers, at 4 and at 10, which print 1 and 2.
abbrev two_handlers : List Catch → Program
two_handlers tries = tried (divides ++ MoveException 2 ∷ shows 1 ++ MoveException 2 ∷ shows 2) tries []

-- the search for a handler
handlers_in_order : Outcomes (
    -- the first that fits takes the throwable
    prints_in (two_handlers (handler 0 3 (Some throwable) 4 ∷ handler 0 3 (Some arithmetic) 10 ∷ [])) (codes "1\n") 12
    -- also where its type is the narrower one
    ∷ prints_in (two_handlers (handler 0 3 (Some arithmetic) 10 ∷ handler 0 3 (Some throwable) 4 ∷ [])) (codes "2\n") 12
    -- one of another type is passed over
    ∷ prints_in (two_handlers (handler 0 3 (Some null_pointer) 4 ∷ handler 0 3 (Some arithmetic) 10 ∷ [])) (codes "2\n") 12
    -- one without a type takes every throwable
    ∷ prints_in (two_handlers (handler 0 3 None 4 ∷ handler 0 3 (Some arithmetic) 10 ∷ [])) (codes "1\n") 12
    -- the first address of a range is covered
    ∷ prints_in (two_handlers (handler 2 3 None 4 ∷ [])) (codes "1\n") 12
    -- its end is not
    ∷ prints_in (two_handlers (handler 0 2 None 4 ∷ handler 2 3 None 10 ∷ [])) (codes "2\n") 12
    -- where no handler covers the address, the frame goes
    ∷ dies (two_handlers (handler 0 2 None 4 ∷ handler 3 16 None 4 ∷ handler 2 2 None 4 ∷ [])) 8 None [] 8
    -- a handler need not fetch the throwable
    ∷ prints_in (two_handlers (handler 2 3 None 5 ∷ [])) (codes "1\n") 11
    ∷ [])
unfolding outcome
handlers_in_order = refl

-- Main calls A.f, which divides by 0; a handler of main, at 4, prints 1. The call is at 0 and has three units.
abbrev calls : List MethodDesc → List Catch → Program
calls methods tries = tried (call_f a ∷ ReturnVoid ∷ MoveException 1 ∷ shows 1) tries (class 1 a 1 (Some object) [] [] methods ∷ [])

-- a throwable goes through frames
frames_that_go : Outcomes (
    -- the frame of f goes, and the handler that covers the call takes the throwable
    prints_in (calls (f_method divides ∷ []) (handler 0 1 (Some arithmetic) 4 ∷ [])) (codes "1\n") 17
    -- one that begins behind the call's address does not
    ∷ dies (calls (f_method divides ∷ []) (handler 1 4 None 4 ∷ [])) 8 None [] 13
    -- a handler of f itself comes before
    ∷ prints_in (calls (method f [] void 9 (code 2 0 (divides ++ MoveException 1 ∷ shows 2) (handler 2 3 None 4 ∷ [])) ∷ []) (handler 0 3 None 4 ∷ [])) (codes "2\n") 17
    -- main calls A.f, which reads B.x; the initialiser of B divides by 0: its frame, the record of B and the frame of f go
    ∷ prints_in (
    tried (call_f a ∷ ReturnVoid ∷ MoveException 1 ∷ shows 1) (handler 0 3 (Some in_initializer) 4 ∷ [])
    (class 1 a 1 (Some object) [] [] (f_method (get_x 0 b ∷ ReturnVoid ∷ []) ∷ []) ∷ having b divides ∷ [])) (codes "1\n") 22
    ∷ [])
unfolding outcome
frames_that_go = refl

-- The initialiser of A reads B.x, that of B divides by 0.
abbrev nested : List Catch → Program
nested tries =
    main_and (get_x 0 a ∷ ReturnVoid ∷ [])
    (class 1 a 1 (Some object) [] with_x (clinit_method (code 2 0 (get_x 0 b ∷ ReturnVoid ∷ MoveException 1 ∷ shows 1) tries) ∷ [])
    ∷ having b divides ∷ [])

-- a throwable goes through records
records_that_go : Outcomes (
    -- a handler of the initialiser of A takes what the record of B throws, and A is done
    prints_in (nested (handler 0 1 (Some in_initializer) 2 ∷ [])) (codes "1\n") 23
    -- without it both records fail
    ∷ dies (nested []) 21 None [] 18
    -- an Error goes through both records as it is
    ∷ dies (main_and (get_x 0 a ∷ ReturnVoid ∷ []) (having a (get_x 0 b ∷ ReturnVoid ∷ []) ∷ having b (throws_new error_class) ∷ [])) 5 None [] 17
    ∷ [])
unfolding outcome
records_that_go = refl

-- with one ExceptionInInitializerError for both: the one that the record of B made is an Error
one_replacement : Sees (nested []) (λ (s : State). s.things) 17 (Made None (Array 43 []) ∷ Made None (Instance 8 (Word 0 ∷ [])) ∷ Made None (Instance 21 (Word 0 ∷ [])) ∷ [])
unfolding outcome
one_replacement = refl

-- the object that is thrown
thrown_objects : Outcomes (
    -- move-exception gives the object that was thrown
    prints_in (
    tried (NewInstance 1 runtime_exception ∷ Throw 1 ∷ ReturnVoid ∷ MoveException 2 ∷ If Ne 1 2 9 ∷ shows 1) (handler 1 2 None 3 ∷ []) []) (codes "1\n") 12
    -- thrown anew by a handler that does not cover itself, it leaves the frame
    ∷ dies (tried (NewInstance 1 runtime_exception ∷ Throw 1 ∷ MoveException 2 ∷ Throw 2 ∷ []) (handler 1 2 None 2 ∷ []) []) 6 None [] 10
    -- or comes, the same object still, to a handler that covers the first one
    ∷ prints_in (
    tried (NewInstance 1 runtime_exception ∷ Throw 1 ∷ MoveException 2 ∷ Throw 2 ∷ MoveException 3 ∷ If Ne 1 3 10 ∷ shows 1)
    (handler 1 2 None 2 ∷ handler 2 4 None 4 ∷ []) []) (codes "1\n") 15
    -- to throw null throws NullPointerException
    ∷ dies (main_and (Throw 0 ∷ []) []) 9 None [] 6
    ∷ [])
unfolding outcome
thrown_objects = refl

-- main makes a throwable, writes a text into one of its fields and throws it
abbrev throws_with : NameNo → NameNo → NameNo → List ClassDesc → Program
throws_with ty holder name others =
    main_and (NewInstance 1 ty ∷ ConstString 2 hi ∷ Iput access.Ref 2 1 (field_ref holder name string) ∷ Throw 1 ∷ []) others

-- a throwable class of the program, with a text field of its own
abbrev own_throwable : List ClassDesc
own_throwable = class 1 c 1 (Some runtime_exception) [] (instance_field y string ∷ []) [] ∷ []

-- messages of throwables
messages : Outcomes (
    -- the run ends by its class and its message
    dies (throws_with runtime_exception throwable message []) 6 (Some (codes "hi")) [] 9
    -- a message may be null
    ∷ dies (main_and (throws_new runtime_exception) []) 6 None [] 7
    -- it may be a text that the program made
    ∷ dies (main_and (NewInstance 1 runtime_exception ∷ ConstString 2 hi
    ∷ Invoke Virtual (method_ref string (no 56) (string ∷ []) string) (2 ∷ 2 ∷ []) ∷ MoveResult kind.Ref 2
    ∷ Iput access.Ref 2 1 (field_ref throwable message string) ∷ Throw 1 ∷ []) []) 6 (Some (codes "hihi")) [] 11
    -- has its message too
    ∷ dies (throws_with c c message own_throwable) 30 (Some (codes "hi")) [] 12
    -- its own field is not the message
    ∷ dies (throws_with c c y own_throwable) 30 None [] 12
    ∷ [])
unfolding outcome
messages = refl

-- runs from states in which T has another status
abbrev plain_main : Program
plain_main = main_and (shows 1) []

-- where main's class does not come to be initialised, or is done before
failures_of_main : Outcomes (
    -- Where main's class fails, its record has nothing below it and the run ends; main is method 13 here.
    ends_with (chain names (class 1 t 1 (Some object) [] [] (starts divides ++ main_method (shows 1) [] ∷ []) ∷ [])) wide 13 [] (finish (Uncaught 21 None) [] 8)
    -- so does it where its superclass fails
    ∷ ends_with (chain names (class 1 t 1 (Some a) [] [] (main_method (shows 1) [] ∷ []) ∷ having a divides ∷ [])) wide 12 [] (finish (Uncaught 21 None) [] 10)
    -- where main's class is erroneous the start throws, and that is the end
    ∷ ends_of plain_main wide (record (first_state plain_main) { statuses = slice_set (first_state plain_main).statuses 29 Erroneous }) 12 [] (finish (Uncaught 20 None) [] 1)
    -- where it is done the start pushes main's frame at once
    ∷ ends_of plain_main wide (record (first_state plain_main) { statuses = slice_set (first_state plain_main).statuses 29 Done }) 12 [] (finish Returned (codes "1\n") 4)
    ∷ [])
unfolding outcome
failures_of_main = refl
