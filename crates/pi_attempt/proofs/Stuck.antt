-- Worked jobs with an attempt in which the machine is stuck, and without one.
use Rattle.std.proofs.Common.{◌≡◌, Option, Some, None, is_some, List, [], ◌∷◌, true, refl}
use Rattle.pi_model.specs.declared.insn.Insn.TheVariants.{Nop, ReturnVoid}
use Rattle.pi_model.specs.Known.{descriptor_of}
use Rattle.pi_model.specs.Dispatch.{is_virtual}
use Rattle.pi_model.specs.Program.{Program}
use Rattle.pi_machine.specs.Natives.{native_table}
use Rattle.pi_machine.specs.Initialisation.{is_clinit}
use Rattle.pi_attempt.specs.Fold.{Line, Progress, preinitialise}
use Rattle.pi_attempt.specs.Laws.{IsStuck}
use Rattle.pi_attempt.proofs.Helpers.{one, second}
use Rattle.pi_attempt.proofs.Turns.{ends_unless_stuck}

-- the initialiser of C runs past its last instruction
runs_past : Program
runs_past = one (Nop ∷ [])

lines : List Line
lines = second 100 (29 ∷ [])

no_result : preinitialise runs_past lines ≡ None
unfolding descriptor_of native_table is_virtual is_clinit runs_past lines
no_result = refl

is_stuck : IsStuck runs_past lines
is_stuck = (ends_unless_stuck runs_past lines).0 no_result

-- that of another program returns, so no attempt to which the fold comes is stuck
returns : Program
returns = one (ReturnVoid ∷ [])

a_result : is_some (preinitialise returns lines) ≡ true
unfolding descriptor_of native_table is_virtual is_clinit returns lines
a_result = refl

no_result_of : (o : Option Progress) → is_some o ≡ true → o ≡ None → ⊥
no_result_of None e h = cc
no_result_of (Some w) e h = cc

none_is_stuck : ¬ IsStuck returns lines
none_is_stuck x = no_result_of (preinitialise returns lines) a_result ((ends_unless_stuck returns lines).1 x)
