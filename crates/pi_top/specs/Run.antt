-- How the plain run answers.
use Rattle.std.specs.Prelude.{◌≡◌, Result, Ok, Err, Bool, true, false}
use Rattle.pi_base.specs.Views.{SinkView}
use Rattle.pi_base.specs.Outside.{BrokeOff, Took}
use Rattle.pi_machine.specs.Ends as ends
use Rattle.pi_machine.specs.Ends.{Finish}
use Rattle.pi_top.specs.declared.plain.run.RunEnd.{RunEnd}
use Rattle.pi_top.specs.declared.plain.run.RunEnd.TheVariants.{Returned, Limited, OutFault}

-- the answer of a run is that end, and the sink took its output whole, or broke off in it
abbrev pub AnswersRun : RunEnd → Finish → SinkView → SinkView → Type 0
AnswersRun (Returned n) f before now = (f.end ≡ ends.Returned) × (f.steps ≡ n) × Took f.output before now
AnswersRun (Limited n) f before now = (f.end ≡ ends.StepLimit) × (f.steps ≡ n) × Took f.output before now
AnswersRun OutFault f before now = BrokeOff f.output before now

abbrev pub is_out_fault : RunEnd → Bool
is_out_fault (Returned n) = false
is_out_fault (Limited n) = false
is_out_fault OutFault = true

-- the same of a call that may want memory or refuse the file
abbrev pub ends_in_out_fault : {E : Type 0} → Result RunEnd E → Bool
ends_in_out_fault (Ok end) = is_out_fault end
ends_in_out_fault (Err _) = false
