-- The statuses of the top call, by what they say.
use Rattle.std.specs.Prelude.{Bool, true, false, ◌||◌, ◌==◌}
use Rattle.pi_base.specs.declared.status.Status.{Status}
use Rattle.pi_base.specs.declared.status.Status.TheVariants.{Done, Uncaught, Usage, Missing, ReadFault, WriteFault, Dex, Steps, Heap, Frames, OutFault, TooLarge, Memory, NotBuilt}
use Rattle.pi_base.specs.Status.{code_of}
use Rattle.pi_base.specs.Outside.{Causes}

-- the two are the same status
abbrev pub is_status : Status → Status → Bool
is_status a b = code_of a == code_of b

-- the statuses with which a command is answered as it owes
abbrev pub is_owed : Status → Bool
is_owed Done = true
is_owed Usage = true
is_owed Missing = true
is_owed Dex = true
is_owed Steps = true
is_owed TooLarge = true
is_owed NotBuilt = true
is_owed _ = false

-- the statuses that come
abbrev pub may_come : Status → Bool
may_come status = is_owed status || (is_status status ReadFault || (is_status status OutFault || is_status status Memory))

-- the statuses with which a run ends
abbrev pub ends_run : Status → Bool
ends_run Done = true
ends_run Uncaught = true
ends_run Steps = true
ends_run Heap = true
ends_run Frames = true
ends_run _ = false

-- the counts that a status says rose
abbrev pub status_causes : Status → Causes
status_causes status = record {
  read_fault = is_status status ReadFault;
  write_fault = is_status status WriteFault;
  miss = is_status status Missing;
  over = is_status status TooLarge;
}
