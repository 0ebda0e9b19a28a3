-- How the program ends.
use Rattle.std.specs.Prelude.{◌≡◌, ℕ, List, map, string_bytes, String, Vec, Result, Ok, Err}
use Rattle.pi_base.specs.declared.status.Status.{Status}
use Rattle.pi_base.specs.declared.status.Status.TheVariants.{Usage, Memory}
use Rattle.pi_base.specs.Status.{code_of}
use Rattle.pi_base.specs.Views.{StoreView, SinkView}
use Rattle.pi_base.specs.Outside.{Told}
use Rattle.pi_duty.specs.Lines.{memory_line, usage_line}
use Rattle.pi_top.specs.declared.program.WordsFault.{WordsFault}
use Rattle.pi_top.specs.declared.program.WordsFault.TheVariants.{OutOfMemory, NoText}
use Rattle.pi_top.specs.Obeys.{Obeys}

-- status and line where there are no words
abbrev pub fault_status : WordsFault → Status
fault_status OutOfMemory = Memory
fault_status NoText = Usage

abbrev pub fault_line : WordsFault → List ℕ
fault_line OutOfMemory = memory_line
fault_line NoText = usage_line

-- the words are obeyed, and the code is that of the status; where there are none, this is told and nothing is done
module _ {Y Z : Type 0} where
  abbrev pub Exits : Result (Vec (String Y) Z) WordsFault → ℕ → StoreView → StoreView → SinkView → SinkView → SinkView → SinkView → Type 0
  Exits (Ok words) code store store_now out out_now err err_now =
      (status : Status) × ((code ≡ code_of status) × Obeys (map string_bytes words.items) status store store_now out out_now err err_now)
  Exits (Err fault) code store store_now out out_now err err_now =
      (code ≡ code_of (fault_status fault)) × (store_now ≡ store) × (out_now ≡ out) × Told (fault_line fault) err err_now
