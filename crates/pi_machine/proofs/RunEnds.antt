-- Worked examples of how runs end: each limit met exactly at its number and not one before, the order of the cases, and
-- steps inside the initialisers of held classes, which are neither counted nor limited.
use Rattle.std.proofs.Common.{Some, None, ◌≡◌, ℕ, List, [], ◌∷◌, ◌++◌, refl}
use Rattle.std.specs.Prelude.{codes}
use Rattle.pi_model.specs.declared.describe.Init.TheVariants.{Str}
use Rattle.pi_model.specs.declared.insn.Insn.{Insn}
use Rattle.pi_model.specs.declared.insn.Insn.TheVariants.{Const, ConstString, ConstClass, NewInstance, NewArray, Aget, Throw, Goto, ReturnVoid, Sget, IfZ, Invoke}
use Rattle.pi_model.specs.declared.insn.Access.TheVariants as access
use Rattle.pi_model.specs.declared.insn.How.TheVariants.{Virtual, Static}
use Rattle.pi_model.specs.declared.insn.Cond.TheVariants.{Eq}
use Rattle.pi_model.specs.Program.{Program}
use Rattle.pi_model.specs.Values.{Array}
use Rattle.pi_machine.specs.State.{State, Made, Touched}
use Rattle.pi_machine.specs.Start.{first_state, start_state}
use Rattle.pi_machine.specs.Ends.{Returned, Uncaught, StepLimit, HeapLimit, FrameLimit, Ends, next, first_tally, run_by}
use Rattle.pi_machine.proofs.Examples.{outcome, Outcomes, ends_of, ends_with, ends_by}
use Rattle.pi_machine.proofs.Sample.{chain, class, object, string, strings, ints, byte, long, throwable, no, void, field, instance_field, field_ref, method, method_ref, main_name, main_method, code, handler, print, print_text, limits, wide, finish}
use Rattle.pi_machine.proofs.Layouts.{names, t, a, b, c, f, x, y, z, hi, starts, below, having, shows, divides, get_x, f_method, call_f, tried, main_and, Sees}

-- main returns at once, in the fifth step
abbrev plain : Program
plain = main_and (ReturnVoid ∷ []) []

-- main prints 1 again and again: in the sixth step, in the eighth, and so on
abbrev prints_on : Program
prints_on = main_and (Const 0 1 ∷ print 0 ∷ Goto 1 ∷ []) []

-- limits on steps
step_limits : Outcomes (
    -- five steps suffice; a state that is ended is ended though as many steps as given were made
    ends_by plain (limits 5 1000 1000) Returned [] 5
    -- four do not
    ∷ ends_by plain (limits 4 1000 1000) StepLimit [] 4
    -- a throwable is thrown in the fifth step and leaves main's frame in the sixth
    ∷ ends_by (main_and (Throw 0 ∷ []) []) (limits 6 1000 1000) (Uncaught 9 None) [] 6
    -- while it is pending over a frame the run is not ended
    ∷ ends_by (main_and (Throw 0 ∷ []) []) (limits 5 1000 1000) StepLimit [] 5
    -- nine steps print twice
    ∷ ends_by prints_on (limits 9 1000 1000) StepLimit (codes "1\n1\n") 9
    -- seven once
    ∷ ends_by prints_on (limits 7 1000 1000) StepLimit (codes "1\n") 7
    -- five not at all
    ∷ ends_by prints_on (limits 5 1000 1000) StepLimit [] 5
    -- and none is a limit too
    ∷ ends_by prints_on (limits 0 1000 1000) StepLimit [] 0
    -- a throwable that is thrown and caught on and on is one object: its sixteen bytes, and sixteen of the arguments
    ∷ ends_by (tried (NewInstance 1 throwable ∷ Throw 1 ∷ []) (handler 1 2 None 1 ∷ []) []) (limits 30 32 13) StepLimit [] 30
    ∷ [])
unfolding outcome
step_limits = refl

-- main makes an array of ints in its second instruction, the sixth step
abbrev makes : ℕ → Program
makes n = main_and (Const 0 n ∷ NewArray 0 0 ints ∷ ReturnVoid ∷ []) []

-- main makes an instance of a class with a byte and a long, which takes three steps before
abbrev makes_wide : Program
makes_wide = main_and (NewInstance 0 c ∷ ReturnVoid ∷ []) (class 1 c 1 (Some object) [] (instance_field x byte ∷ instance_field y long ∷ []) [] ∷ [])

-- limits on heap bytes
heap_limits : Outcomes (
    -- the array of no argument has 16 bytes and that of four ints has 32
    ends_by (makes 4) (limits 100 48 100) Returned [] 7
    -- one byte less does not do
    ∷ ends_by (makes 4) (limits 100 47 100) HeapLimit [] 5
    -- nor do eight
    ∷ ends_by (makes 4) (limits 100 40 100) HeapLimit [] 5
    -- an empty array has 16 bytes
    ∷ ends_by (makes 0) (limits 100 32 100) Returned [] 7
    -- and no fewer
    ∷ ends_by (makes 0) (limits 100 31 100) HeapLimit [] 5
    -- a length of -1 throws, and the throwable has 16 bytes
    ∷ ends_by (makes 4294967295) (limits 100 32 100) (Uncaught 11 None) [] 7
    -- where it does not fit, that is the end
    ∷ ends_by (makes 4294967295) (limits 100 24 100) HeapLimit [] 5
    -- the instance has 24 bytes: 8, then the long, then the byte, rounded up
    ∷ ends_by makes_wide (limits 100 40 100) Returned [] 9
    -- and no fewer
    ∷ ends_by makes_wide (limits 100 39 100) HeapLimit [] 7
    -- a class object costs nothing
    ∷ ends_by (main_and (ConstClass 0 t ∷ ReturnVoid ∷ []) []) (limits 100 16 100) Returned [] 6
    ∷ [])
unfolding outcome
heap_limits = refl

-- main takes the literal of one unit twice
abbrev takes_x : Program
takes_x = main_and (ConstString 0 x ∷ ConstString 1 x ∷ ReturnVoid ∷ []) []

-- main reads the static text of A and then takes its literal
abbrev takes_static : Program
takes_static =
    main_and (Sget access.Ref 0 (field_ref a z string) ∷ ConstString 1 hi ∷ ReturnVoid ∷ [])
    (class 1 a 1 (Some object) [] (field z string 8 (Str hi) ∷ []) [] ∷ [])

-- main appends the literal of one unit to itself
abbrev doubles : Program
doubles = main_and (ConstString 0 x ∷ Invoke Virtual (method_ref string (no 56) (string ∷ []) string) (0 ∷ 0 ∷ []) ∷ ReturnVoid ∷ []) []

-- the heap bytes of literals, of texts and of what is thrown
text_bytes : Outcomes (
    -- a literal counts at its first touch alone, as 24 bytes
    ends_by takes_x (limits 100 40 100) Returned [] 7
    -- and no fewer
    ∷ ends_by takes_x (limits 100 39 100) HeapLimit [] 4
    -- a literal that an image holds does not count
    ∷ ends_by takes_x (record { held = []; imaged = 66 ∷ []; steps = 100; heap = 16; frames = 100 }) Returned [] 7
    -- another one does
    ∷ ends_by takes_x (record { held = []; imaged = 69 ∷ []; steps = 100; heap = 39; frames = 100 }) HeapLimit [] 4
    -- a static text counts where the static values are set, and not again where an instruction takes its literal
    ∷ ends_by takes_static (limits 100 40 100) Returned [] 10
    -- in the sixth step
    ∷ ends_by takes_static (limits 100 39 100) HeapLimit [] 5
    -- the text of two units that the native makes counts as 24 bytes
    ∷ ends_by doubles (limits 100 64 100) Returned [] 7
    -- and no fewer
    ∷ ends_by doubles (limits 100 63 100) HeapLimit [] 5
    -- what an initialiser throws and what replaces it at the record have 16 bytes each
    ∷ ends_by (main_and (get_x 0 a ∷ ReturnVoid ∷ []) (having a divides ∷ [])) (limits 100 48 100) (Uncaught 21 None) [] 13
    -- the second one is made in the twelfth step
    ∷ ends_by (main_and (get_x 0 a ∷ ReturnVoid ∷ []) (having a divides ∷ [])) (limits 100 47 100) HeapLimit [] 11
    ∷ [])
unfolding outcome
text_bytes = refl

-- two arguments, of which main prints the first
abbrev arguments : List (List ℕ)
arguments = codes "ab" ∷ codes "c" ∷ []

abbrev prints_first : Program
prints_first = main_and (Aget access.Ref 0 8 1 ∷ print_text 0 ∷ ReturnVoid ∷ []) []

-- the heap bytes of arguments
argument_limits : Outcomes (
    -- their array has 24 bytes, and so has each text of one or two units
    ends_with prints_first (limits 100 72 100) 12 arguments (finish Returned (codes "ab") 7)
    -- where they do not fit there is no step, whatever the other limits are
    ∷ ends_with prints_first (limits 0 71 0) 12 arguments (finish HeapLimit [] 0)
    -- where a run starts from a state that has things, the arguments stand behind them and count alone
    ∷ ends_of prints_first (limits 100 72 100) (record (first_state prints_first) { things = Made (Some 1) (Array 36 []) ∷ Touched (Some 1) 66 ∷ [] }) 12 arguments (finish Returned (codes "ab") 7)
    -- an empty text has 16 bytes
    ∷ ends_with plain (limits 100 40 100) 12 ([] ∷ []) (finish Returned [] 5)
    ∷ [])
unfolding outcome
argument_limits = refl

-- f has no register and calls itself; main has one, of its argument, and calls f. So after 4 + k steps the frames have
-- 5 + 4 * k words.
abbrev calls_on : Program
calls_on = chain names (
    class 1 t 1 (Some object) [] []
    (method main_name (strings ∷ []) void 9 (code 1 1 (call_f t ∷ ReturnVoid ∷ []) []) ∷ method f [] void 9 (code 0 0 (call_f t ∷ ReturnVoid ∷ []) []) ∷ [])
    ∷ [])

-- main calls a method of two registers twice
abbrev calls_twice : Program
calls_twice = main_and (call_f a ∷ call_f a ∷ ReturnVoid ∷ []) (class 1 a 1 (Some object) [] [] (f_method (ReturnVoid ∷ []) ∷ []) ∷ [])

-- limits on frame words
frame_limits : Outcomes (
    -- main's frame has nine registers, thirteen words
    ends_by plain (limits 100 1000 13) Returned [] 5
    -- with twelve it is not pushed
    ∷ ends_by plain (limits 100 1000 12) FrameLimit [] 3
    -- 61 words after 18 steps, and one more call would pass 64
    ∷ ends_by calls_on (limits 100 1000 64) FrameLimit [] 18
    -- it fits 65
    ∷ ends_by calls_on (limits 100 1000 65) FrameLimit [] 19
    -- 61 words are within a limit of 61
    ∷ ends_by calls_on (limits 100 1000 61) FrameLimit [] 18
    -- and not within one of 60
    ∷ ends_by calls_on (limits 100 1000 60) FrameLimit [] 17
    -- its six words are needed once
    ∷ ends_by calls_twice (limits 100 1000 19) Returned [] 12
    -- and no fewer
    ∷ ends_by calls_twice (limits 100 1000 18) FrameLimit [] 7
    -- records and natives cost no word: an initialiser that prints, over two records and main
    ∷ ends_by (main_and (get_x 0 b ∷ ReturnVoid ∷ []) (having a (shows 1) ∷ below a b (shows 2) ∷ [])) (limits 100 1000 19) Returned (codes "1\n2\n") 20
    ∷ [])
unfolding outcome
frame_limits = refl

-- the order of the limits
order_of_limits : Outcomes (
    -- the limit on steps comes before that on heap bytes: the sixth step would pass 47 bytes
    ends_by (makes 4) (limits 5 47 100) StepLimit [] 5
    -- and before that on frame words: the fourth would pass 12 words
    ∷ ends_by plain (limits 3 1000 12) StepLimit [] 3
    ∷ [])
unfolding outcome
order_of_limits = refl

-- heap bytes come before frame words: with main's frame there already, the step that makes the array would pass both
heap_before_frames : Sees (makes 4) (λ (s : State). next (makes 4) (limits 100 47 12) s (first_tally (makes 4) [])) 5 (Ends HeapLimit)
unfolding outcome
heap_before_frames = refl

-- with a byte more it would pass the frame words alone
frames_after_heap : Sees (makes 4) (λ (s : State). next (makes 4) (limits 100 48 12) s (first_tally (makes 4) [])) 5 (Ends FrameLimit)
unfolding outcome
frames_after_heap = refl

-- main called with null
abbrev call_main : ℕ → Insn
call_main r = Invoke Static (method_ref t main_name (strings ∷ []) void) (r ∷ [])

-- calls of main
returns_of_main : Outcomes (
    -- A run is not ended by the return of a call of main: here it calls itself once, unless its argument is null.
    ends_by (main_and (IfZ Eq 8 5 ∷ Const 0 0 ∷ call_main 0 ∷ shows 1) []) wide Returned (codes "1\n1\n") 14
    -- nor is it the start: here the initialiser of its class calls it, after which the eleventh step is the start; main is
    -- method 13
    ∷ ends_with (chain names (class 1 t 1 (Some object) [] [] (starts (Const 0 0 ∷ call_main 0 ∷ ReturnVoid ∷ []) ++ main_method (shows 1) [] ∷ []) ∷ [])) wide 13 [] (finish Returned (codes "1\n1\n") 14)
    ∷ [])
unfolding outcome
returns_of_main = refl

-- a run that is stuck has no end: what is thrown is no throwable
stuck : run_by (main_and (NewInstance 0 object ∷ Throw 0 ∷ []) []) wide 100 (start_state (main_and (NewInstance 0 object ∷ Throw 0 ∷ []) []) 12 []) (first_tally (main_and (NewInstance 0 object ∷ Throw 0 ∷ []) []) []) ≡ None
unfolding outcome
stuck = refl
