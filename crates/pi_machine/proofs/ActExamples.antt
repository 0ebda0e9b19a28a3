-- Worked acts, and lists of deeds that are those of a step and that are not.
use Rattle.std.proofs.Common.{◌≡◌, Some, None, List, [], ◌∷◌, true, false, refl}
use Rattle.std.specs.Prelude.{codes}
use Rattle.pi_model.specs.declared.reason.ClassState.TheVariants.{Fresh, InProgress, Done}
use Rattle.pi_model.specs.Known.{descriptor_of}
use Rattle.pi_model.specs.Program.{Program}
use Rattle.pi_model.specs.Values.{Word, Num, Array, Text}
use Rattle.pi_machine.specs.Natives.{native_table}
use Rattle.pi_machine.specs.State.{State, Made, Touched, Record, Entered, Running}
use Rattle.pi_machine.specs.Deeds.{Deed, Make, Touch, Saw, OfStatus, OfStatic, Writes, SetStatic, SetStatus, SetItem, CallNative, Push, Pop, Jump, Pend}
use Rattle.pi_machine.specs.Acts.{Act, EnterClass, WriteStatic, WriteObject, ReadStatic, CallImpure, Turn, acts}
use Rattle.pi_machine.specs.Start.{first_state}
use Rattle.pi_machine.specs.Step.{deeds_of}
use Rattle.pi_machine.specs.StepForms.{StaticsOf, ThingAt, target_of, makes_first}
use Rattle.pi_machine.proofs.Examples.{Same}
use Rattle.pi_machine.proofs.Sample.{chain, class, object, own, int, static_field, with_things}

-- T in the second file, class 29, with the static x, field 1; its name is 60
with_x : Program
with_x = chain (codes "LT;" ∷ codes "x" ∷ []) (class 1 (own 0) 1 (Some object) [] (static_field (own 1) int ∷ []) [] ∷ [])

-- an array of ints for the image of file 1, one for no image, and a touched literal
with_arrays : State
with_arrays = with_things with_x (Made (Some 1) (Array 36 (Word 0 ∷ [])) ∷ Made None (Array 36 (Word 0 ∷ [])) ∷ Touched None 1 ∷ [])

-- the acts of deeds, and what they are to be
acts_are : List Deed → List Act → List Act × List Act
unfolding with_x with_arrays descriptor_of native_table
acts_are deeds wanted = (acts with_x with_arrays deeds, wanted)

-- each act
each_act : Same (
    acts_are (Saw (OfStatus 29 Fresh) ∷ SetStatus 29 InProgress ∷ Push (Record 29 Entered) ∷ []) (EnterClass 29 ∷ Turn ∷ [])
    ∷ acts_are (Saw (OfStatus 29 Done) ∷ SetStatic 1 (Word 5) ∷ Jump 2 ∷ []) (WriteStatic 29 60 1 ∷ Turn ∷ [])
    ∷ acts_are (Saw (OfStatic 1 (Word 5)) ∷ Jump 2 ∷ []) (ReadStatic 29 ∷ Turn ∷ [])
    ∷ acts_are (Writes 0 ∷ SetItem 0 0 (Word 7) ∷ Jump 1 ∷ []) (WriteObject (Some 1) 36 ∷ Turn ∷ [])
    ∷ acts_are (Writes 1 ∷ Jump 1 ∷ []) (WriteObject None 36 ∷ Turn ∷ [])
    -- print is not pure, clone is
    ∷ acts_are (CallNative 6 ∷ Jump 3 ∷ []) (CallImpure 6 ∷ Turn ∷ [])
    ∷ acts_are (CallNative 0 ∷ Jump 3 ∷ []) (Turn ∷ [])
    ∷ [])
unfolding acts_are
each_act = refl

-- the end of a record is a step; before anything runs there is none
record_ends : deeds_of with_x (record (first_state with_x) { stack = Record 29 Running ∷ [] }) ≡ Some (SetStatus 29 Done ∷ Pop ∷ [])
unfolding with_x
record_ends = refl

nothing_runs : deeds_of with_x (first_state with_x) ≡ None
unfolding with_x
nothing_runs = refl

-- what no step does: it writes a static and a thing, and it makes an object after another or after a touch
two_targets : (target_of with_x (SetStatic 1 (Word 5)) ≡ Some (StaticsOf 29)) × (target_of with_x (Writes 0) ≡ Some (ThingAt 0))
unfolding with_x
two_targets = (refl, refl)

object_order : Same (
    (makes_first (Make (Text []) ∷ Make (Text []) ∷ []), false)
    ∷ (makes_first (Touch 1 ∷ Make (Text []) ∷ []), false)
    ∷ (makes_first (SetItem 0 0 (Word 1) ∷ Make (Text []) ∷ Pend (Num 3) ∷ Touch 1 ∷ Touch 1 ∷ []), true)
    ∷ [])
object_order = refl
