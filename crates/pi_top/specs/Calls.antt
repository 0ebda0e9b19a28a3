-- The commands of words that were read, as the duties see them.
use Rattle.std.specs.Prelude.{List, Option, map, string_bytes, String}
use Rattle.pi_duty.specs.Words.{LazyWords}
use Rattle.pi_duty.specs.Command.{Command, command_of}
use Rattle.pi_duty.specs.Command as command
use Rattle.pi_top.specs.declared.commands.lazy.LazyCall.{LazyCall}
use Rattle.pi_top.specs.declared.commands.Call.{Call}
use Rattle.pi_top.specs.declared.commands.Call.TheVariants.{Lazy}

abbrev pub lazy_of : LazyCall → LazyWords
lazy_of call = record { file = call.file.now; main = call.main.now; steps = call.steps }

abbrev pub of_call : Call → Command
of_call (Lazy call) = command.Lazy (lazy_of call)

-- the command that these words ask for
module _ {Z : Type 0} where
  abbrev pub asked : List (String Z) → Option Command
  asked words = command_of (map string_bytes words)
