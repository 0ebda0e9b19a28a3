-- The units of instructions and of their payloads, one instruction after the other.
use Rattle.std.specs.Prelude.{ℕ, List, [], ◌∷◌, ◌++◌, Option, Some}
use Rattle.pi_insn.specs.Chain.{◌>>=◌}
use Rattle.pi_model.specs.declared.describe.Line.{Line}
use Rattle.pi_classtables.specs.Forms.{raw_bodies, first_form}
use Rattle.pi_classtables.specs.Layout.{data_place, laid_data, next_data}
use Rattle.pi_dexcodes.specs.declared.payloads.Laid.{Laid}
use Rattle.pi_dexcodes.specs.Front.{front_lines, end_of_lines, has_keys, data_for}

-- the first of numbers, 0 where there is none, and those behind it
abbrev pub first_number : List ℕ → ℕ
first_number [] = 0
first_number (n ∷ numbers) = n

abbrev pub numbers_behind : List ℕ → List ℕ
numbers_behind [] = []
numbers_behind (n ∷ numbers) = numbers

-- the units of an instruction by the number of what it names and the address where its payload may begin
abbrev pub form_for : List ℕ → ℕ → ℕ → Line → Option (List ℕ)
form_for listed number next l = first_form l.units (has_keys listed l) (raw_bodies number l.at (data_place next) l.insn)

-- what is laid, with a payload
abbrev pub with_data : List ℕ → Laid → Laid
with_data units laid = record {
  units = laid.units;
  payloads = laid.payloads ++ laid_data laid.next units;
  next = next_data laid.next units;
}

-- with an instruction and its payload, nothing where it has no form
abbrev pub with_line : List ℕ → ℕ → Line → Laid → Option Laid
with_line listed number l laid = form_for listed number laid.next l >>= (λ units. Some (with_data (data_for listed l) (record {
  units = laid.units ++ units;
  payloads = laid.payloads;
  next = laid.next;
})))

-- and with all instructions, as one list
abbrev pub laid_lines : List ℕ → List ℕ → Laid → List Line → Option (List ℕ)
laid_lines listed numbers laid [] = Some (laid.units ++ laid.payloads)
laid_lines listed numbers laid (l ∷ ls) =
    with_line listed (first_number numbers) l laid >>= (λ more. laid_lines listed (numbers_behind numbers) more ls)

-- the units of a code: its instructions before the payloads, and the payloads
abbrev pub laid_code : List ℕ → List ℕ → List Line → Option (List ℕ)
laid_code listed numbers lines =
    laid_lines listed numbers (record { units = []; payloads = []; next = end_of_lines 0 (front_lines 0 lines) }) (front_lines 0 lines)
