-- Worked examples of what a status says.
use Rattle.std.proofs.Common.{◌≡◌, true, false, [], ◌∷◌, codes, refl}
use Rattle.pi_base.specs.declared.status.Status.TheVariants.{Done, Missing, WriteFault, OutFault, Memory, NotBuilt, Asm}
use Rattle.pi_base.specs.Outside.{no_cause}
use Rattle.pi_duty.specs.Lines.{not_built_line}
use Rattle.pi_duty.specs.Duty.{Owed, refusal}
use Rattle.pi_top.specs.Statuses.{may_come, status_causes}
use Rattle.pi_top.specs.Obeys.{is_as_owed}

-- a run that returned, and a write without output
abbrev returned : Owed
returned = record { status = Done; output = codes "5\n"; lines = codes "made 11 steps\n"; writes = [] }

abbrev written : Owed
written = record { status = Done; output = []; lines = []; writes = record { name = codes "a.dex"; bytes = 100 ∷ [] } ∷ [] }

-- `Missing` says that a name was not there, and `Done` that nothing was refused
one_miss : status_causes Missing ≡ record { read_fault = false; write_fault = false; miss = true; over = false }
one_miss = refl

none_refused : status_causes Done ≡ no_cause
none_refused = refl

-- a fault of the output may stop a run, and no refusal; want of memory may stop each
stops_run : is_as_owed returned OutFault ≡ true
stops_run = refl

stops_no_refusal : is_as_owed (refusal NotBuilt not_built_line) OutFault ≡ false
stops_no_refusal = refl

wants : is_as_owed (refusal NotBuilt not_built_line) Memory ≡ true
wants = refl

-- a refused write may stop what has a write, and nothing else
stops_write : is_as_owed written WriteFault ≡ true
stops_write = refl

stops_no_run : is_as_owed returned WriteFault ≡ false
stops_no_run = refl

-- a run that is owed is not answered by a refusal
no_refusal : is_as_owed returned NotBuilt ≡ false
no_refusal = refl

-- no command assembles or writes yet
no_text : may_come Asm ≡ false
no_text = refl

no_write : may_come WriteFault ≡ false
no_write = refl
