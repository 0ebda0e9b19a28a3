-- The instructions of a code as it holds them: those before its payloads, and where their payloads end.
use Rattle.std.specs.Prelude.{ℕ, ◌+◌, ◌==◌, ◌&&◌, ◌||◌, nat_lt, List, [], ◌∷◌, Bool, if◌then◌else◌}
use Rattle.std.specs.List.{list_any}
use Rattle.pi_model.specs.declared.describe.Line.{Line}
use Rattle.pi_classtables.specs.Layout.{payload_units, is_scattered, next_data}

-- those that follow each other from an address on, and the address behind them
abbrev pub front_lines : ℕ → List Line → List Line
front_lines at [] = []
front_lines at (l ∷ ls) = if (l.at == at) && nat_lt 0 l.units then l ∷ front_lines (at + l.units) ls else []

abbrev pub end_of_lines : ℕ → List Line → ℕ
end_of_lines at [] = at
end_of_lines at (l ∷ ls) = end_of_lines (at + l.units) ls

-- whether the payload of a switch has keys, and the payload of an instruction
abbrev pub has_keys : List ℕ → Line → Bool
has_keys listed l = list_any (λ at. at == l.at) listed || is_scattered l.insn

abbrev pub data_for : List ℕ → Line → List ℕ
data_for listed l = payload_units (has_keys listed l) l.at l.insn

-- the address behind the payloads of instructions that begin at an address
abbrev pub end_of_data : List ℕ → ℕ → List Line → ℕ
end_of_data listed at [] = at
end_of_data listed at (l ∷ ls) = end_of_data listed (next_data at (data_for listed l)) ls
