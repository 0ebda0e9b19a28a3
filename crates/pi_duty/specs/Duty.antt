-- What a command owes for its words and for what the store holds: a relation, since a run has an end only where the
-- machine gives it one. Want of memory and faults of the store or of a sink are no part of it.
use Rattle.std.specs.Prelude.{◌≡◌, ℕ, nat_lt, List, [], ◌++◌, length, Option, Some, None, Bool, true, false}
use Rattle.pi_base.specs.declared.status.Status.{Status}
use Rattle.pi_base.specs.declared.status.Status.TheVariants.{Done, Uncaught, Usage, Missing, Dex, Steps, Heap, Frames, TooLarge, NotBuilt}
use Rattle.pi_base.specs.Views.{Contents}
use Rattle.pi_base.specs.Writes.{Write}
use Rattle.pi_model.specs.Program.{Program}
use Rattle.pi_bytes.specs.Numbers.{most_bytes}
use Rattle.pi_format.specs.Core.{core_program}
use Rattle.pi_format.specs.Rules.{Broken, broken_rule}
use Rattle.pi_format.specs.Says.{with_said}
use Rattle.pi_machine.specs.Objects.{class_descriptor}
use Rattle.pi_machine.specs.Start.{main_of}
use Rattle.pi_machine.specs.Ends as ends
use Rattle.pi_machine.specs.Ends.{End, Finish, Setting, EndsWith}
use Rattle.pi_duty.specs.Small.{is_small}
use Rattle.pi_duty.specs.Words.{LazyWords}
use Rattle.pi_duty.specs.Command.{Command, Lazy, command_of, writes_nothing}
use Rattle.pi_duty.specs.Lines.{usage_line, missing_line, dex_line, too_large_line, not_built_line, step_limit_line, heap_limit_line, frame_limit_line, uncaught_line, made_line}

-- what a command owes: its status, the bytes of its output, its lines on the error sink, and its writes to the store in
-- their order
pub record Owed : Type 0 where
  pub status : Status
  pub output : List ℕ
  pub lines : List ℕ
  pub writes : List Write

-- a refusal: a line and nothing else
abbrev pub refusal : Status → List ℕ → Owed
refusal status line = record { status = status; output = []; lines = line; writes = [] }

-- the limits of a lazy run: no class is held, and heap bytes and frame words are limited
abbrev pub lazy_setting : ℕ → Setting
lazy_setting steps = record { held = []; imaged = []; steps = steps; heap = 67108864; frames = 1048576 }

-- status and first lines by the end of a run. No small program throws, so how a message is printed is left to what comes.
abbrev pub end_status : End → Status
end_status ends.Returned = Done
end_status (ends.Uncaught c message) = Uncaught
end_status ends.StepLimit = Steps
end_status ends.HeapLimit = Heap
end_status ends.FrameLimit = Frames

abbrev pub end_lines : Program → End → List ℕ
end_lines p ends.Returned = []
end_lines p (ends.Uncaught c message) = uncaught_line (class_descriptor p c)
end_lines p ends.StepLimit = step_limit_line
end_lines p ends.HeapLimit = heap_limit_line
end_lines p ends.FrameLimit = frame_limit_line

-- what a run owes that ended so
abbrev pub owed_of_run : Program → Finish → Owed
owed_of_run p f = record {
  status = end_status f.end;
  output = f.output;
  lines = end_lines p f.end ++ made_line f.steps;
  writes = [];
}

-- the run of a program for a main method owes what it ends with
abbrev pub RunOwes : Program → ℕ → Option ℕ → Owed → Type 0
RunOwes p steps None o = o ≡ refusal NotBuilt not_built_line
RunOwes p steps (Some main) o = (f : Finish) × (EndsWith p (lazy_setting steps) main [] f × (o ≡ owed_of_run p f))

-- a program that is small for the main class is run, and another is not built
abbrev pub ProgramOwes : Bool → LazyWords → Program → Owed → Type 0
ProgramOwes false l p o = o ≡ refusal NotBuilt not_built_line
ProgramOwes true l p o = RunOwes p l.steps (main_of p l.main) o

-- a file that breaks a rule of the format is refused; another says a program behind the first file
abbrev pub FileOwes : LazyWords → Option Broken → Program → Owed → Type 0
FileOwes l (Some broken) p o = o ≡ refusal Dex (dex_line l.file broken.rule broken.at)
FileOwes l None p o = ProgramOwes (is_small l.main p) l p o

-- a file that is longer than the limit is refused
abbrev pub LengthOwes : Bool → LazyWords → List ℕ → Owed → Type 0
LengthOwes true l file o = o ≡ refusal TooLarge (too_large_line l.file)
LengthOwes false l file o = FileOwes l (broken_rule file) (with_said core_program file) o

-- a lazy run by what the store holds under the file's name
abbrev pub LazyOwes : LazyWords → Option (List ℕ) → Owed → Type 0
LazyOwes l None o = o ≡ refusal Missing (missing_line l.file)
LazyOwes l (Some file) o = LengthOwes (nat_lt most_bytes (length file)) l file o

-- a command by what it is
abbrev pub CommandOwes : Command → Contents → Owed → Type 0
CommandOwes (Lazy l) contents o = LazyOwes l (contents l.file) o

-- words that are no command are refused
abbrev pub WordsOwe : Option Command → Contents → Owed → Type 0
WordsOwe None contents o = o ≡ refusal Usage usage_line
WordsOwe (Some command) contents o = CommandOwes command contents o

-- what these words owe over a store of these contents
abbrev pub Owes : List (List ℕ) → Contents → Owed → Type 0
Owes words contents o = WordsOwe (command_of words) contents o

-- words owe one thing at most
abbrev pub OwesOnce : Type 0
OwesOnce = (words : List (List ℕ)) (contents : Contents) (a b : Owed) → Owes words contents a → Owes words contents b → a ≡ b

-- a command that only reads owes no write
abbrev pub ReadersWriteNothing : Type 0
ReadersWriteNothing = (command : Option Command) (contents : Contents) (o : Owed) → writes_nothing command ≡ true → WordsOwe command contents o → o.writes ≡ []
