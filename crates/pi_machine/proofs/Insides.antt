-- Worked examples of runs with held classes: the steps of their initialisers are inside, and are neither counted nor
-- limited.
use Rattle.std.proofs.Common.{Some, None, ℕ, List, [], ◌∷◌, refl}
use Rattle.std.specs.Prelude.{codes}
use Rattle.pi_model.specs.declared.describe.Init.TheVariants.{Str}
use Rattle.pi_model.specs.declared.insn.Insn.{Insn}
use Rattle.pi_model.specs.declared.insn.Insn.TheVariants.{Const, ConstString, NewArray, ReturnVoid, Sget}
use Rattle.pi_model.specs.declared.insn.Access.TheVariants as access
use Rattle.pi_model.specs.Program.{Program}
use Rattle.pi_machine.specs.Ends.{Setting, Returned, Uncaught, StepLimit, HeapLimit, FrameLimit}
use Rattle.pi_machine.proofs.Examples.{outcome, Outcomes, ends_by}
use Rattle.pi_machine.proofs.Sample.{class, object, string, ints, field, field_ref, print}
use Rattle.pi_machine.proofs.Layouts.{a, b, x, z, hi, below, having, shows, divides, get_x, f_method, call_f, main_and}

-- classes are held, no literal is in an image, and the limits are these
abbrev holding : List ℕ → ℕ → ℕ → ℕ → Setting
holding held steps heap frames = record { held = held; imaged = []; steps = steps; heap = heap; frames = frames }

-- The initialiser of A makes an array of 32 bytes and prints 4, in eight steps: enter, values, call, four instructions,
-- done. Main reads A.x. So the run has 14 steps, of which six are outside where A is held.
abbrev fills : List Insn
fills = Const 0 4 ∷ NewArray 1 0 ints ∷ print 0 ∷ ReturnVoid ∷ []

abbrev reads_a : Program
reads_a = main_and (get_x 0 a ∷ ReturnVoid ∷ []) (having a fills ∷ [])

-- one class that is held, or main's
one_class_held : Outcomes (
    -- with no class held each step counts: 14 steps, 16 and 32 bytes, 13 and 6 words
    ends_by reads_a (holding [] 14 48 19) Returned (codes "4\n") 14
    -- one step less does not do
    ∷ ends_by reads_a (holding [] 13 48 19) StepLimit (codes "4\n") 13
    -- nor one byte
    ∷ ends_by reads_a (holding [] 14 47 19) HeapLimit [] 8
    -- nor one word
    ∷ ends_by reads_a (holding [] 14 48 18) FrameLimit [] 6
    -- with A held the eight steps of its initialisation count nothing, and what they print is printed
    ∷ ends_by reads_a (holding (30 ∷ []) 6 16 13) Returned (codes "4\n") 6
    -- the read of A.x is the fifth counted step and the return the sixth
    ∷ ends_by reads_a (holding (30 ∷ []) 5 16 13) StepLimit (codes "4\n") 5
    -- where four steps were counted the limit is met, though the next step is inside
    ∷ ends_by reads_a (holding (30 ∷ []) 4 16 13) StepLimit [] 4
    -- main's own frame counts as ever
    ∷ ends_by reads_a (holding (30 ∷ []) 6 16 12) FrameLimit [] 3
    -- another class that is held changes nothing
    ∷ ends_by reads_a (holding (31 ∷ 12 ∷ []) 14 48 18) FrameLimit [] 6
    -- where main's class itself is held its three steps are inside
    ∷ ends_by reads_a (holding (29 ∷ 30 ∷ []) 3 16 13) Returned (codes "4\n") 3
    ∷ [])
unfolding outcome
one_class_held = refl

-- The initialiser of B reads A.x, and main reads B.x.
abbrev b_reads_a : Program
b_reads_a = main_and (get_x 0 b ∷ ReturnVoid ∷ []) (having a fills ∷ having b (get_x 0 a ∷ ReturnVoid ∷ []) ∷ [])

-- B is below A
abbrev b_below_a : Program
b_below_a = main_and (get_x 0 b ∷ ReturnVoid ∷ []) (having a fills ∷ below a b (shows 2) ∷ [])

-- initialisations within others
classes_within : Outcomes (
    -- with B held the initialisation of A within it is inside too
    ends_by b_reads_a (holding (31 ∷ []) 6 16 13) Returned (codes "4\n") 6
    -- With A held that of B is outside around it: enter, values, call, then the read, the return and done; the array is not
    -- counted, nor are the words of A's initialiser.
    ∷ ends_by b_reads_a (holding (30 ∷ []) 12 16 19) Returned (codes "4\n") 12
    -- the words of B's initialiser are
    ∷ ends_by b_reads_a (holding (30 ∷ []) 12 16 18) FrameLimit [] 6
    -- calls of an initialiser of a held class are inside: f of B makes the array, and B is entered for it
    ∷ ends_by (
    main_and (get_x 0 a ∷ ReturnVoid ∷ [])
    (having a (call_f b ∷ ReturnVoid ∷ []) ∷ class 1 b 1 (Some object) [] [] (f_method fills ∷ []) ∷ [])) (holding (30 ∷ []) 6 16 13) Returned (codes "4\n") 6
    -- with both held all of it is inside
    ∷ ends_by b_below_a (holding (30 ∷ 31 ∷ []) 6 16 13) Returned (codes "4\n2\n") 6
    -- with A held, B's seven steps are outside
    ∷ ends_by b_below_a (holding (30 ∷ []) 13 16 19) Returned (codes "4\n2\n") 13
    -- an initialiser that throws is inside up to the step in which its record goes
    ∷ ends_by (main_and (get_x 0 a ∷ ReturnVoid ∷ []) (having a divides ∷ [])) (holding (30 ∷ []) 5 16 13) (Uncaught 21 None) [] 5
    ∷ [])
unfolding outcome
classes_within = refl

-- The initialiser of A takes the literal of one unit, 24 bytes; main takes it afterwards.
abbrev touches_then : Program
touches_then = main_and (get_x 0 a ∷ ConstString 1 x ∷ ReturnVoid ∷ []) (having a (ConstString 0 x ∷ ReturnVoid ∷ []) ∷ [])

-- literals that are touched inside
touched_literals : Outcomes (
    -- first touched inside and then outside it counts at the outside touch
    ends_by touches_then (holding (30 ∷ []) 7 40 13) Returned [] 7
    -- which is the sixth counted step
    ∷ ends_by touches_then (holding (30 ∷ []) 7 39 13) HeapLimit [] 5
    -- where an image holds it, it never counts
    ∷ ends_by touches_then (record { held = 30 ∷ []; imaged = 66 ∷ []; steps = 7; heap = 16; frames = 13 }) Returned [] 7
    -- with no class held it counts inside the initialiser, in the eighth step
    ∷ ends_by touches_then (holding [] 100 39 100) HeapLimit [] 7
    -- touched outside first, then inside, then outside again it counts once
    ∷ ends_by (
    main_and (ConstString 1 x ∷ get_x 0 a ∷ ConstString 2 x ∷ ReturnVoid ∷ []) (having a (ConstString 0 x ∷ ReturnVoid ∷ []) ∷ []))
    (holding (30 ∷ []) 8 40 13) Returned [] 8
    -- a static text of a held class is touched inside, and counts where main takes its literal
    ∷ ends_by (
    main_and (Sget access.Ref 0 (field_ref a z string) ∷ ConstString 1 hi ∷ ReturnVoid ∷ []) (class 1 a 1 (Some object) [] (field z string 8 (Str hi) ∷ []) [] ∷ []))
    (holding (30 ∷ []) 7 39 13) HeapLimit [] 5
    -- a static text that is only read never counts
    ∷ ends_by (
    main_and (Sget access.Ref 0 (field_ref a z string) ∷ ReturnVoid ∷ []) (class 1 a 1 (Some object) [] (field z string 8 (Str hi) ∷ []) [] ∷ []))
    (holding (30 ∷ []) 6 16 13) Returned [] 6
    ∷ [])
unfolding outcome
touched_literals = refl
