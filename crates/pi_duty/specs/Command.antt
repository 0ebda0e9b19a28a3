-- The commands as data, the one that words ask for, and what each does with the store.
use Rattle.std.specs.Prelude.{◌≡◌, ℕ, List, Option, Some, None, option_map, Bool, true}
use Rattle.pi_duty.specs.Words.{LazyWords, lazy_words}

-- a command: a run of one file without images
pub data Command : Type 0 where
  Lazy : (words : LazyWords) → Command

-- the command that words ask for, where they ask for one
abbrev pub command_of : List (List ℕ) → Option Command
command_of words = option_map Lazy (lazy_words words)

-- a name that the command reads
abbrev pub Reads : Command → List ℕ → Type 0
Reads (Lazy l) name = name ≡ l.file

-- the command writes nothing to the store
abbrev pub only_reads : Command → Bool
only_reads (Lazy l) = true

-- nor do words that are no command
abbrev pub writes_nothing : Option Command → Bool
writes_nothing None = true
writes_nothing (Some command) = only_reads command
