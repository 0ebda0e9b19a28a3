-- Worked states at rest and not, and the start of main without an array of arguments.
use Rattle.std.proofs.Common.{◌≡◌, Some, [], ◌∷◌, true, false, replicate, refl}
use Rattle.pi_model.specs.declared.reason.ClassState.TheVariants.{Done}
use Rattle.pi_model.specs.declared.insn.Insn.TheVariants.{ReturnVoid}
use Rattle.pi_model.specs.Known.{descriptor_of}
use Rattle.pi_model.specs.Program.{Program}
use Rattle.pi_model.specs.Values.{Num, Word}
use Rattle.pi_machine.specs.State.{Call, Record, Running}
use Rattle.pi_machine.specs.Deeds.{Saw, OfStatus, Start, Push}
use Rattle.pi_machine.specs.Start.{first_state, start_state, with_main}
use Rattle.pi_machine.specs.Step.{deeds_of, at_rest}
use Rattle.pi_machine.proofs.Examples.{Same}
use Rattle.pi_machine.proofs.Sample.{core, main_program, standing}

-- main does nothing
abbrev idle : Program
idle = main_program (ReturnVoid ∷ []) []

-- states at rest, and not
rests : Same (
    -- before anything runs there is no main
    (at_rest (first_state core), true)
    -- once main is named it is left to be called
    ∷ (at_rest (start_state core 12 []), false)
    -- after its return nothing is left, nor where a throwable has left the stack empty before main was called
    ∷ (at_rest (record (start_state core 12 []) { started = true }), true)
    ∷ (at_rest (record (start_state core 12 []) { pending = Some (Num 0) }), true)
    -- a frame or a record is left to be gone on with, whether a throwable is pending or not
    ∷ (at_rest (record (first_state core) { stack = Call (standing []) ∷ [] }), false)
    ∷ (at_rest (record (first_state core) { stack = Record 0 Running ∷ []; pending = Some (Num 0) }), false)
    ∷ [])
rests = refl

-- where there is no array of arguments, main begins with null in its place
without_arguments : deeds_of idle (record (first_state idle) { main = Some 12; statuses = replicate 30 Done })
    ≡ Some (Saw (OfStatus 29 Done) ∷ Start ∷ Push (Call (standing (replicate 9 (Word 0)))) ∷ [])
unfolding descriptor_of
without_arguments = refl

-- a run begins with no output
begins_silent : (with_main core 12 [] (record (first_state core) { output = 49 ∷ [] })).output ≡ []
begins_silent = refl
